-- The loop over the stack of positions at a place.
use Rattle.std.proofs.Common.{ℕ, Bool, ◌+◌, ◌≡◌, ◌<◌, ◌≤◌, true, false, Option, Some, None, option_to_list, List, []}
use Rattle.std.proofs.Common.{◌∷◌, ◌++◌, length, map, reverse, append_assoc, refl, sym, ap, subst, ◌∙◌, arith}
use Rattle.std.proofs.Common.{length-append}
use Rattle.std.specs.Prelude.{nat_lt}
use Rattle.std.specs.List.{filter_map, cons_option}
use Rattle.std.proofs.lemmas.Bool.{ltb-true, ltb-false}
use Rattle.std.proofs.lemmas.List.Elements.{filter_map-append}
use Rattle.mbe_tt.specs.Trees.Tree.{Forest, rest_at}
use Rattle.mbe_semantics.specs.Readings.Input.{Input}
use Rattle.mbe_semantics.specs.Syntax.Op.{Ops, no_ops, op}
use Rattle.mbe_semantics.specs.Syntax.Nullable.{Checked}
use Rattle.mbe_semantics.specs.Readings.Reading.{PartialReading, EndsAt}
use Rattle.mbe_semantics.specs.Laws.Lawful.{Lawful}
use Rattle.mbe_semantics.specs.Matching.Lists.{In}
use Rattle.mbe_semantics.specs.Matching.Closure.{closure}
use Rattle.mbe_semantics.specs.Bindings.Account.{Log, Handle}
use Rattle.mbe_semantics.specs.Matching.States.{state_count, thread_state}
use Rattle.mbe_semantics.specs.Matching.ThreadModel.{ThreadModel, thread_model, erase, epsilons_of, next_of}
use Rattle.mbe_semantics.specs.Matching.ThreadModel.{finished_of}
use Rattle.mbe_laws.specs.Bounded.ClosureTwoEach.{times}
use Rattle.mbe_laws.specs.Loop.StackClosure.{kept}
use Rattle.mbe_laws.proofs.Loop.TurnedLoop.{KeepsTo, turned_keeps, turned_done, turned_number, turned_drop, turned_take}
use Rattle.mbe_threads.specs.declared.thread.ThreadFrame.{ThreadFrame}
use Rattle.mbe_threads.specs.declared.thread.Thread.{Thread}
use Rattle.mbe_threads.specs.declared.thread.Steps.{Steps}
use Rattle.mbe_threads.specs.declared.thread.TokenStep.{TokenStep}
use Rattle.mbe_matcher.specs.Threads.{Each, Both, Shows, IsThread, LeadsTo, Holds, AreSteps}
use Rattle.mbe_matcher.specs.MatchResults.{IsStack, IsFrontier}
use Rattle.mbe_matcher.specs.declared.match_report.MatchReport.{MatchReport}
use Rattle.mbe_matcher.specs.Failures.{Mismatch, Notes, mismatch, mismatch_unless, remaining_ops, bound_by}
use Rattle.mbe_matcher.specs.Reports.{IsReportOf}
use Rattle.mbe_ops.specs.Views.{ops_of}
use Rattle.mbe_matcher.proofs.Whole.{FillsAll, fills_first, fills_more, fills_whole}
use Rattle.mbe_matcher.proofs.Reporting.{notes_keep, shown_ops, shown_bound, is_step, step_same}
use Rattle.mbe_matcher.proofs.Keeping.{each_weaker, each_append, both_each, shows_keep, leads_keep, holds_keep}

-- ---- lists, member by member

-- the last of each
pub record ReportedThread {X Y : Type 0} (R : X → Y → Type 0) (xs : List X) (x : X) (ys : List Y) : Type 0 where
  pub front : List Y
  pub last : Y
  pub is : ys ≡ front ++ last ∷ []
  pub fronts : Each R xs front
  pub lasts : R x last

pub last_of : {X Y : Type 0} (R : X → Y → Type 0) (xs : List X) (x : X) (ys : List Y) → Each R (xs ++ x ∷ []) ys
    → ReportedThread R xs x ys
last_of R [] x [] a = elim a [ ]
last_of R [] x (y ∷ []) a = record { front = []; last = y; is = refl; fronts = tt; lasts = a.0 }
last_of R [] x (y ∷ z ∷ ys) a = elim a.1 [ ]
last_of R (w ∷ xs) x [] a = elim a [ ]
last_of R (w ∷ xs) x (y ∷ ys) a =
    let r = last_of R xs x ys a.1 in
    record { front = y ∷ r.front; last = r.last; is = ap (λ l. y ∷ l) r.is; fronts = (a.0, r.fronts); lasts = r.lasts }

-- pushed the other way round
pub each_turned : {X Y : Type 0} (R : X → Y → Type 0) (a b : Option X) (ys : List Y)
    → Each R (option_to_list a ++ option_to_list b) ys → Each R (option_to_list b ++ option_to_list a) (reverse ys)
each_turned R None None [] h = tt
each_turned R None None (y ∷ ys) h = elim h [ ]
each_turned R (Some x) None [] h = elim h [ ]
each_turned R (Some x) None (y ∷ []) h = h
each_turned R (Some x) None (y ∷ z ∷ ys) h = elim h.1 [ ]
each_turned R None (Some x) [] h = elim h [ ]
each_turned R None (Some x) (y ∷ []) h = h
each_turned R None (Some x) (y ∷ z ∷ ys) h = elim h.1 [ ]
each_turned R (Some w) (Some x) [] h = elim h [ ]
each_turned R (Some w) (Some x) (y ∷ []) h = elim h.1 [ ]
each_turned R (Some w) (Some x) (y ∷ z ∷ []) h = (h.1.0, (h.0, tt))
each_turned R (Some w) (Some x) (y ∷ z ∷ v ∷ ys) h = elim h.1.1 [ ]

pub each_none : {X Y : Type 0} (R : X → Y → Type 0) (ys : List Y) → Each R [] ys → ys ≡ []
each_none R [] a = refl
each_none R (y ∷ ys) a = elim a [ ]

pub one_step : {X Y : Type 0} (f : X → Option Y) (x : X) → filter_map f (x ∷ []) ≡ option_to_list (f x)
one_step {Y = Y} f x = at (f x)
  where
    at : (y : Option Y) → cons_option y [] ≡ option_to_list y
    at None = refl
    at (Some y) = refl

pub no_mismatch : (q : ℕ) (o : ThreadModel) → mismatch_unless true q o ≡ None
no_mismatch q (thread_model no_ops a up) = refl
no_mismatch q (thread_model (op o rest) a up) = refl

pub shown_number : {A : Type 0} (log : Log) (frames : List (ThreadFrame A)) (p : Thread A) (o : ThreadModel)
    → Shows log frames p o → p.number ≡ thread_state o
shown_number log frames p (thread_model rest a up) s = s.number

-- ---- what a step adds

module _ {A : Type 0} (i : Input) (argument : Forest) (q : ℕ) (log : Log) (frames : List (ThreadFrame A))
    (rest : List (Thread A)) (p : Thread A) (stack : List ThreadModel)
    (top : ReportedThread (Shows log frames) rest p stack)
    (new : Log) (after : List (ThreadFrame A)) (s : Steps A)
    (gives : (o : ThreadModel) → Shows log frames p o → AreSteps i argument q log new frames after o s) where
  st : AreSteps i argument q log new frames after top.last s
  st = gives top.last top.lasts

  -- its steps are pushed
  pub shown_on : (todo : List (Thread A)) → todo ≡ (rest ++ option_to_list s.second) ++ option_to_list s.first
      → Each (Shows new after) todo (top.front ++ reverse (epsilons_of i q top.last))
  shown_on todo pushed = subst (λ l. Each (Shows new after) l (top.front ++ reverse (epsilons_of i q top.last)))
      (sym (pushed ∙ append_assoc rest (option_to_list s.second) (option_to_list s.first)))
      (each_append (Shows new after) rest (option_to_list s.second ++ option_to_list s.first) top.front
      (reverse (epsilons_of i q top.last))
      (each_weaker (Shows log frames) (Shows new after) (λ x y h. shows_keep log new frames after st.kept x y h) rest
      top.front top.fronts)
      (each_turned (Shows new after) s.first s.second (epsilons_of i q top.last) st.now.epsilons))

  -- it waits, or has ended
  module _ (out : List ThreadModel) where
    pub leads_on : (ws ws' : List (TokenStep A)) → ws' ≡ ws ++ option_to_list s.next
        → Each (LeadsTo log frames (rest_at argument q)) ws (filter_map (next_of i q) out)
        → Each (LeadsTo new after (rest_at argument q)) ws' (filter_map (next_of i q) (out ++ top.last ∷ []))
    leads_on ws ws' waits continues = subst (λ l. Each (LeadsTo new after (rest_at argument q)) l
        (filter_map (next_of i q) (out ++ top.last ∷ []))) (sym waits)
        (subst (Each (LeadsTo new after (rest_at argument q)) (ws ++ option_to_list s.next))
        (sym (filter_map-append (next_of i q) out (top.last ∷ [])
        ∙ ap (λ l. filter_map (next_of i q) out ++ l) (one_step (next_of i q) top.last)))
        (each_append (LeadsTo new after (rest_at argument q)) ws (option_to_list s.next)
        (filter_map (next_of i q) out) (option_to_list (next_of i q top.last))
        (each_weaker (LeadsTo log frames (rest_at argument q)) (LeadsTo new after (rest_at argument q))
        (λ x y h. leads_keep log new frames after st.kept (rest_at argument q) x y h) ws
        (filter_map (next_of i q) out) continues)
        (both_each (LeadsTo new after (rest_at argument q)) s.next (next_of i q top.last) st.now.next)))

    pub ends_on : (hs hs' : List Handle) → hs' ≡ hs ++ option_to_list s.done
        → Each (Holds log) hs (filter_map finished_of out)
        → Each (Holds new) hs' (filter_map finished_of (out ++ top.last ∷ []))
    ends_on hs hs' ends ended = subst (λ l. Each (Holds new) l (filter_map finished_of (out ++ top.last ∷ [])))
        (sym ends)
        (subst (Each (Holds new) (hs ++ option_to_list s.done))
        (sym (filter_map-append finished_of out (top.last ∷ [])
        ∙ ap (λ l. filter_map finished_of out ++ l) (one_step finished_of top.last)))
        (each_append (Holds new) hs (option_to_list s.done) (filter_map finished_of out)
        (option_to_list (finished_of top.last))
        (each_weaker (Holds log) (Holds new) (λ x y h. holds_keep log new frames after st.kept x y h) hs
        (filter_map finished_of out) ended)
        (both_each (Holds new) s.done (finished_of top.last) st.now.done)))

    -- and it is noted where it fails
    pub report_on : (f : Forest) (r r' : MatchReport A) (n : Notes) (b : Bool) (h : Handle) → b ≡ is_step s → h
        ≡ p.handle →
        ((l : Log) (x : ThreadModel) (ms : List Mismatch) (m : Notes) → ops_of p.tail.now ≡ remaining_ops x
        → Holds l h (bound_by x)
        → IsReportOf l f r ms m →
        IsReportOf l f r' (ms ++ option_to_list (mismatch_unless b q x)) m) →
        IsReportOf log f r (filter_map (mismatch i q) out) n
        → IsReportOf new f r' (filter_map (mismatch i q) (out ++ top.last ∷ [])) n
    report_on f r r' n b h e same at_stop is =
        let ms = filter_map (mismatch i q) out in
        let one = one_step (mismatch i q) top.last
        ∙ ap (λ x. option_to_list (mismatch_unless x q top.last))
        (sym (e ∙ step_same i argument q new after top.last s st.now)) in
        subst (λ l. IsReportOf new f r' l n)
        (sym (filter_map-append (mismatch i q) out (top.last ∷ []) ∙ ap (λ l. ms ++ l) one))
        (at_stop new top.last ms n (shown_ops log frames p top.last top.lasts)
        (subst (λ x. Holds new x (bound_by top.last)) (sym same)
        (shown_bound log new frames p top.last st.kept.log top.lasts))
        (notes_keep log new f r ms n st.kept.log is))

-- ---- what the loop keeps

-- The outlines that are followed so far are `out`, and those of the stack are left.
pub record Walked {A : Type 0} (i : Input) (pattern : Ops) (q : ℕ) (all : List ThreadModel) (visited : List ℕ)
    (log : Log)
    (frames : List (ThreadFrame A)) (here : Forest)
    (todo : List (Thread A)) (ws : List (TokenStep A)) (hs : List Handle) : Type 0 where
  pub stack : List ThreadModel
  pub out : List ThreadModel
  pub keeps : KeepsTo i pattern q all stack visited out
  pub shown : Each (Shows log frames) todo stack
  pub continues : Each (LeadsTo log frames here) ws (filter_map (next_of i q) out)
  pub ended : Each (Holds log) hs (filter_map finished_of out)

pub walked_start : {A : Type 0} (i : Input) (q size : ℕ) (log : Log) (frames : List (ThreadFrame A)) (here : Forest)
    (todo : List (Thread A)) (ws : List (TokenStep A)) (hs : List Handle)
    (s : IsStack i q size log frames todo) → ws ≡ [] → hs ≡ []
    → Walked i s.pattern q (kept i (state_count s.pattern) q (reverse s.thread_stack)) [] log frames here todo ws hs
walked_start i q size log frames here todo ws hs s e f = record {
  stack = s.thread_stack;
  out = [];
  keeps = turned_keeps i s.pattern q s.partial_readings s.thread_stack s.stack.sound s.stack.same;
  shown = s.shown;
  continues = subst (λ l. Each (LeadsTo log frames here) l []) (sym e) tt;
  ended = subst (λ l. Each (Holds log) l []) (sym f) tt;
}

-- none has failed
pub misfits_start : {A : Type 0} (i : Input) (q size : ℕ) (log : Log) (frames : List (ThreadFrame A)) (here : Forest)
    (todo : List (Thread A)) (ws : List (TokenStep A)) (hs : List Handle)
    (s : IsStack i q size log frames todo) (e : ws ≡ []) (g : hs ≡ [])
    → filter_map (mismatch i q) (walked_start i q size log frames here todo ws hs s e g).out ≡ []
unfolding walked_start
misfits_start i q size log frames here todo ws hs s e g = refl

pub report_start : {A : Type 0} (i : Input) (q size : ℕ) (log : Log) (frames : List (ThreadFrame A)) (here : Forest)
    (todo : List (Thread A)) (ws : List (TokenStep A)) (hs : List Handle)
    (s : IsStack i q size log frames todo) (e : ws ≡ []) (g : hs ≡ []) (f : Forest) (r : MatchReport A) (n : Notes)
    → IsReportOf log f r [] n →
    IsReportOf log f r (filter_map (mismatch i q) (walked_start i q size log frames here todo ws hs s e g).out) n
unfolding walked_start
report_start i q size log frames here todo ws hs s e g f r n is = is

pub fills_begin : {A : Type 0} (i : Input) (q size : ℕ) (log : Log) (frames : List (ThreadFrame A)) (here : Forest)
    (todo : List (Thread A)) (ws : List (TokenStep A)) (hs : List Handle)
    (s : IsStack i q size log frames todo) (e : ws ≡ []) (g : hs ≡ []) (len : ℕ) → Lawful i len →
    FillsAll i s.pattern q s.thread_stack (walked_start i q size log frames here todo ws hs s e g).stack
    (walked_start i q size log frames here todo ws hs s e g).out
unfolding walked_start
fills_begin i q size log frames here todo ws hs s e g len lawful = fills_first i s.pattern q len lawful s.thread_stack

module _ {A : Type 0} (i : Input) (pattern : Ops) (argument : Forest) (q : ℕ) (all : List ThreadModel)
    (visited : List ℕ)
    (log : Log) (frames : List (ThreadFrame A))
    (rest todo : List (Thread A)) (p : Thread A) (ws : List (TokenStep A)) (hs : List Handle)
    (top : todo ≡ rest ++ p ∷ [])
    (w : Walked i pattern q all visited log frames (rest_at argument q) todo ws hs) where
  popped : ReportedThread (Shows log frames) rest p w.stack
  popped = last_of (Shows log frames) rest p w.stack (subst (λ l. Each (Shows log frames) l w.stack) top w.shown)

  pub popped_shown : IsThread log frames p
  popped_shown = (popped.last, popped.lasts)

  keeps : KeepsTo i pattern q all (popped.front ++ popped.last ∷ []) visited w.out
  keeps = subst (λ l. KeepsTo i pattern q all l visited w.out) popped.is w.keeps

  number : p.number ≡ thread_state popped.last
  number = shown_number log frames p popped.last popped.lasts

  -- the number of the position is that of a dot
  pub popped_number : (0 < p.number) × (p.number ≤ state_count pattern)
  popped_number =
      let n : (0 < thread_state popped.last) × (thread_state popped.last ≤ state_count pattern) =
      turned_number i pattern q all visited w.out popped.last popped.front keeps in
      let a = n.0 in
      let b = n.1 in
      let e = number in
      (omega (arith, a, e), omega (arith, b, e))

  -- met twice before
  pub walked_drop : nat_lt (times p.number visited) 2 ≡ false
      → Walked i pattern q all visited log frames (rest_at argument q) rest ws hs
  walked_drop few = record {
    stack = popped.front;
    out = w.out;
    keeps = (turned_drop i pattern q all visited w.out popped.last popped.front keeps
        (subst (λ n. 2 ≤ times n visited) number (ltb-false (times p.number visited) 2 few))).0;
    shown = popped.fronts;
    continues = w.continues;
    ended = w.ended;
  }

  pub report_drop : (few : nat_lt (times p.number visited) 2 ≡ false) (f : Forest) (r : MatchReport A) (n : Notes)
      → IsReportOf log f r (filter_map (mismatch i q) w.out) n →
      IsReportOf log f r (filter_map (mismatch i q) (walked_drop few).out) n
  unfolding walked_drop
  report_drop few f r n is = is

  -- else its steps are followed
  module _ (new : Log) (after : List (ThreadFrame A)) (s : Steps A) (todo' : List (Thread A)) (ws' : List (TokenStep A))
      (hs' : List Handle)
      (gives : (o : ThreadModel) → Shows log frames p o → AreSteps i argument q log new frames after o s)
      (pushed : todo' ≡ (rest ++ option_to_list s.second) ++ option_to_list s.first)
      (waits : ws' ≡ ws ++ option_to_list s.next) (ends : hs' ≡ hs ++ option_to_list s.done) where
    pub walked_take : nat_lt (times p.number visited) 2 ≡ true
        → Walked i pattern q all (p.number ∷ visited) new after (rest_at argument q) todo' ws' hs'
    walked_take few = record {
      stack = popped.front ++ reverse (epsilons_of i q popped.last);
      out = w.out ++ popped.last ∷ [];
      keeps = subst (λ n. KeepsTo i pattern q all (popped.front ++ reverse (epsilons_of i q popped.last)) (n ∷ visited)
          (w.out ++ popped.last ∷ [])) (sym number)
          (turned_take i pattern q all visited w.out popped.last popped.front keeps
          (subst (λ n. times n visited < 2) number (ltb-true (times p.number visited) 2 few))).0;
      shown = shown_on i argument q log frames rest p w.stack popped new after s gives todo' pushed;
      continues =
          leads_on i argument q log frames rest p w.stack popped new after s gives w.out ws ws' waits w.continues;
      ended = ends_on i argument q log frames rest p w.stack popped new after s gives w.out hs hs' ends w.ended;
    }

    -- with a step it doesn't fail
    pub misfits_take : (few : nat_lt (times p.number visited) 2 ≡ true) → is_step s ≡ true
        → filter_map (mismatch i q) w.out ≡ [] → filter_map (mismatch i q) (walked_take few).out ≡ []
    unfolding walked_take
    misfits_take few steps none = filter_map-append (mismatch i q) w.out (popped.last ∷ [])
        ∙ ap (λ l. l ++ filter_map (mismatch i q) (popped.last ∷ [])) none
        ∙ one_step (mismatch i q) popped.last
        ∙ ap (λ b. option_to_list (mismatch_unless b q popped.last))
        (sym (step_same i argument q new after popped.last s (gives popped.last popped.lasts).now) ∙ steps)
        ∙ ap (λ x. option_to_list x) (no_mismatch q popped.last)

    -- and it is noted where it fails
    pub report_take : (few : nat_lt (times p.number visited) 2
        ≡ true) (f : Forest) (r r' : MatchReport A) (n : Notes) (b : Bool)
        (h : Handle) → b ≡ is_step s → h ≡ p.handle →
        ((l : Log) (x : ThreadModel) (ms : List Mismatch) (m : Notes) → ops_of p.tail.now ≡ remaining_ops x
        → Holds l h (bound_by x)
        → IsReportOf l f r ms m →
        IsReportOf l f r' (ms ++ option_to_list (mismatch_unless b q x)) m) →
        IsReportOf log f r (filter_map (mismatch i q) w.out) n
        → IsReportOf new f r' (filter_map (mismatch i q) (walked_take few).out) n
    unfolding walked_take
    report_take few f r r' n b h e same at_stop is =
        report_on i argument q log frames rest p w.stack popped new after s gives w.out f r r' n b h e same at_stop is

    pub fills_next : (few : nat_lt (times p.number visited) 2 ≡ true) (thread_stack : List ThreadModel) (len : ℕ)
        → Lawful i len
        → FillsAll i pattern q thread_stack w.stack w.out →
        FillsAll i pattern q thread_stack (walked_take few).stack (walked_take few).out
    unfolding walked_take
    fills_next few thread_stack len lawful fills =
        fills_more i pattern q len lawful thread_stack w.stack popped.front w.out popped.last popped.is fills

pub walked_done : {A : Type 0} (i : Input) (q size : ℕ) (old log : Log) (before frames : List (ThreadFrame A))
    (here : Forest)
    (first todo : List (Thread A)) (visited : List ℕ)
    (ws : List (TokenStep A)) (hs : List Handle) (s : IsStack i q size old before first) → todo ≡ [] →
    (w : Walked i s.pattern q (kept i (state_count s.pattern) q (reverse s.thread_stack)) visited log frames here todo
    ws hs)
    → w.out ≡ kept i (state_count s.pattern) q (reverse s.thread_stack)
walked_done i q size old log before frames here first todo visited ws hs s e w =
    let none : w.stack ≡ [] = each_none (Shows log frames) w.stack
    (subst (λ l. Each (Shows log frames) l w.stack) e w.shown) in
    turned_done i s.pattern q (kept i (state_count s.pattern) q (reverse s.thread_stack)) visited w.out
    (subst (λ l. KeepsTo i s.pattern q (kept i (state_count s.pattern) q (reverse s.thread_stack)) l visited w.out) none
    w.keeps)

pub walked_end : {A : Type 0} (i : Input) (q size : ℕ) (old log : Log) (before frames : List (ThreadFrame A))
    (here : Forest)
    (first todo : List (Thread A)) (visited : List ℕ)
    (ws : List (TokenStep A)) (hs : List Handle) (s : IsStack i q size old before first) → todo ≡ [] →
    Walked i s.pattern q (kept i (state_count s.pattern) q (reverse s.thread_stack)) visited log frames here todo ws hs
    →
    IsFrontier i q s.pattern s.thread_stack log frames here ws hs
walked_end i q size old log before frames here first todo visited ws hs s e w =
    let done = walked_done i q size old log before frames here first todo visited ws hs s e w in
    record {
      continues = subst (λ l. Each (LeadsTo log frames here) ws (filter_map (next_of i q) l)) done w.continues;
      ended = subst (λ l. Each (Holds log) hs (filter_map finished_of l)) done w.ended;
    }

pub fills_done : {A : Type 0} (i : Input) (q size : ℕ) (old log : Log) (before frames : List (ThreadFrame A))
    (here : Forest)
    (first todo : List (Thread A)) (visited : List ℕ)
    (ws : List (TokenStep A)) (hs : List Handle) (s : IsStack i q size old before first) → todo ≡ [] →
    (w : Walked i s.pattern q (kept i (state_count s.pattern) q (reverse s.thread_stack)) visited log frames here todo
    ws hs) (len : ℕ)
    → Lawful i len → FillsAll i s.pattern q s.thread_stack w.stack w.out →
    Checked s.pattern → (xs : List PartialReading) → ((x : PartialReading) → In x xs → EndsAt i s.pattern q x)
    → map erase xs ≡ reverse s.thread_stack →
    kept i (state_count s.pattern) q (reverse s.thread_stack) ≡ map erase (closure i q xs)
fills_done i q size old log before frames here first todo visited ws hs s e w len lawful fills =
    fills_whole i s.pattern q len lawful s.thread_stack w.stack w.out
    (kept i (state_count s.pattern) q (reverse s.thread_stack))
    (each_none (Shows log frames) w.stack (subst (λ l. Each (Shows log frames) l w.stack) e w.shown))
    (walked_done i q size old log before frames here first todo visited ws hs s e w) fills

-- ---- how many there are

pub popped_all : {X : Type 0} (xs : List X) → (0 < length xs → false ≡ true) → xs ≡ []
popped_all [] h = refl
popped_all (x ∷ xs) h = let e : false ≡ true = h (omega arith) in cc

some_few : {X : Type 0} (x : Option X) → length (option_to_list x) ≤ 1
some_few None = omega arith
some_few (Some x) = omega arith

both_few : {X Y : Type 0} (R : X → Y → Type 0) (x : Option X) (y : Option Y) → Both R x y
    → length (option_to_list x) ≡ length (option_to_list y)
both_few R None None h = refl
both_few R (Some x) (Some y) h = refl
both_few R None (Some y) h = absurd h
both_few R (Some x) None h = absurd h

-- a position at the pattern's end goes on over no token
one_continuation : (i : Input) (q : ℕ) (o : ThreadModel)
    → length (option_to_list (next_of i q o)) + length (option_to_list (finished_of o)) ≤ 1
one_continuation i q (thread_model no_ops e []) = omega arith
one_continuation i q (thread_model no_ops e (x ∷ up)) =
    let f : length (option_to_list (next_of i q (thread_model no_ops e (x ∷ up)))) ≤ 1 =
    some_few (next_of i q (thread_model no_ops e (x ∷ up))) in omega (arith, f)
one_continuation i q (thread_model (op o rest) e up) =
    let f : length (option_to_list (next_of i q (thread_model (op o rest) e up))) ≤ 1 =
    some_few (next_of i q (thread_model (op o rest) e up)) in omega (arith, f)

pub steps_few : {A : Type 0} (i : Input) (argument : Forest) (q : ℕ) (log new : Log)
    (frames after : List (ThreadFrame A))
    (p : Thread A) (s : Steps A) → IsThread log frames p →
    ((o : ThreadModel) → Shows log frames p o → AreSteps i argument q log new frames after o s)
    → length (option_to_list s.next) + length (option_to_list s.done) ≤ 1
steps_few i argument q log new frames after p s is gives =
    let st = gives is.0 is.1 in
    let a : length (option_to_list s.next) ≡ length (option_to_list (next_of i q is.0)) =
    both_few (LeadsTo new after (rest_at argument q)) s.next (next_of i q is.0) st.now.next in
    let b : length (option_to_list s.done) ≡ length (option_to_list (finished_of is.0)) =
    both_few (Holds new) s.done (finished_of is.0) st.now.done in
    let c = one_continuation i q is.0 in
    omega (arith, a, b, c)

pub few_on : {W H : Type 0} (ws ws' : List W) (hs hs' : List H) (w : Option W) (h : Option H) (v v' n : ℕ)
    → ws' ≡ ws ++ option_to_list w → hs' ≡ hs ++ option_to_list h →
    length (option_to_list w) + length (option_to_list h) ≤ 1 → v' < v → length ws + length hs + v ≤ n
    → length ws' + length hs' + v' ≤ n
few_on ws ws' hs hs' w h v v' n e f one l few =
    let a : length ws' ≡ length ws + length (option_to_list w) = ap length e ∙ length-append ws (option_to_list w) in
    let b : length hs' ≡ length hs + length (option_to_list h) = ap length f ∙ length-append hs (option_to_list h) in
    omega (arith, a, b, one, l, few)

pub stack_drops : {P : Type 0} (rest all : List P) (p : P) (v v' : ℕ) → all ≡ rest ++ p ∷ [] → v' ≡ v
    → length rest + (v' + v') < length all + (v + v)
stack_drops rest all p v v' e same =
    let a : length all ≡ length rest + 1 = ap length e ∙ length-append rest (p ∷ []) in
    omega (arith, a, same)

pub stack_falls : {P : Type 0} (rest all all' : List P) (p : P) (first second : Option P) (v v' : ℕ)
    → all ≡ rest ++ p ∷ [] → all' ≡ (rest ++ option_to_list second) ++ option_to_list first →
    v' < v → length all' + (v' + v') < length all + (v + v)
stack_falls rest all all' p first second v v' e f l =
    let a : length all ≡ length rest + 1 = ap length e ∙ length-append rest (p ∷ []) in
    let b : length all' ≡ length rest + length (option_to_list second) + length (option_to_list first) =
    ap length f ∙ length-append (rest ++ option_to_list second) (option_to_list first)
    ∙ ap (λ n. n + length (option_to_list first)) (length-append rest (option_to_list second)) in
    let c : length (option_to_list first) ≤ 1 = some_few first in
    let d : length (option_to_list second) ≤ 1 = some_few second in
    omega (arith, a, b, c, d, l)
