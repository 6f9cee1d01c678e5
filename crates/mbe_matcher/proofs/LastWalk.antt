-- The loop over the last position of each dot, the last first.
use Rattle.std.proofs.Common.{ℕ, Bool, ◌+◌, ◌≡◌, ◌<◌, ◌≤◌, true, false, Option, Some, None, option_to_list, List, []}
use Rattle.std.proofs.Common.{◌∷◌, ◌++◌, map, reverse, length, length-append, append_assoc, append-nil, refl, sym, ap}
use Rattle.std.proofs.Common.{subst, ◌∙◌, arith}
use Rattle.std.specs.Prelude.{nat_lt, is_some}
use Rattle.std.specs.Option.{option_or}
use Rattle.std.specs.List.{filter_map}
use Rattle.std.proofs.lemmas.Bool.{ltb-true, ltb-false}
use Rattle.std.proofs.lemmas.List.{reverse-append, reverse-reverse, map-append, length-map}
use Rattle.std.proofs.lemmas.List.Elements.{filter_map-append}
use Rattle.mbe_tt.specs.Trees.Tree.{Forest, rest_at}
use Rattle.mbe_semantics.specs.Readings.Input.{Input}
use Rattle.mbe_semantics.specs.Syntax.Op.{Ops}
use Rattle.mbe_semantics.specs.Bindings.Account.{Log, Handle}
use Rattle.mbe_semantics.specs.Matching.States.{state_count, thread_state}
use Rattle.mbe_semantics.specs.Matching.ThreadModel.{ThreadModel, epsilons_of, next_of}
use Rattle.mbe_laws.specs.Bounded.ClosureTwoEach.{times}
use Rattle.mbe_ops.specs.Views.{ops_of}
use Rattle.mbe_matcher.specs.declared.report_pass.FailedThread.{FailedThread}
use Rattle.mbe_matcher.specs.declared.report_pass.ThreadExit.{ThreadExit}
use Rattle.mbe_matcher.specs.declared.report_pass.Visit as declared
use Rattle.mbe_matcher.specs.declared.report_pass.Visit.TheVariants as variants
use Rattle.mbe_threads.specs.declared.thread.ThreadFrame.{ThreadFrame}
use Rattle.mbe_threads.specs.declared.thread.Thread.{Thread}
use Rattle.mbe_threads.specs.declared.thread.Steps.{Steps}
use Rattle.mbe_threads.specs.declared.thread.TokenStep.{TokenStep}
use Rattle.mbe_matcher.specs.declared.match_report.MatchReport.{MatchReport}
use Rattle.mbe_matcher.specs.Threads.{Each, Shows, IsThread, LeadsTo, Holds, AreSteps, Keeps}
use Rattle.mbe_matcher.specs.Failures.{Mismatch, Notes, has_step, mismatch, mismatch_unless, remaining_ops, bound_by}
use Rattle.mbe_matcher.specs.Reports.{IsReportOf}
use Rattle.mbe_matcher.specs.FirstAndLast.{Visit, enter, leave, visits_of, key_of, leaves_of, only_first, model_back}
use Rattle.mbe_matcher.specs.ReportPass.{to_enter, FailsBy, Leaves, VisitShows, IsLastStack, Enters, FirstFails}
use Rattle.mbe_matcher.specs.ReportPass.{AreLasts}
use Rattle.mbe_matcher.proofs.Keeping.{both_weaker, each_weaker, each_append, both_each, shows_keep, leads_keep}
use Rattle.mbe_matcher.proofs.Keeping.{holds_keep}
use Rattle.mbe_laws.proofs.Loop.TurnedOffsets.{map_reverse}
use Rattle.mbe_matcher.proofs.MatchEnds.{each_length}
use Rattle.mbe_matcher.proofs.Reporting.{is_step, step_same, shown_ops, shown_bound, mismatch_fails}
use Rattle.mbe_matcher.proofs.Frontiers.{ReportedThread, last_of, each_none, one_step, shown_number}
use Rattle.mbe_matcher.proofs.Walking.{Walks, walks_end, walks_good, walks_drop, walks_take, here_few, here_number}
use Rattle.mbe_matcher.proofs.Walking.{backward, backward_start, GoodVisit, Entered, entered_start, entered_drop}
use Rattle.mbe_matcher.proofs.Walking.{entered_take, leaves_now, entered_leave}

-- ---- in a later log

module _ {A : Type 0} (i : Input) (here : Forest) (q : ℕ) (old new : Log) (before after : List (ThreadFrame A))
    (k : Keeps old new before after) where
  fails_keep : (b : Bool) (f : Option (FailedThread A)) (o : ThreadModel) → FailsBy b q old f o → FailsBy b q new f o
  fails_keep b None o h = h
  fails_keep b (Some f) o h = (h.0, h.1, holds_keep old new before after k f.handle (bound_by o) h.2)

  leaves_keep : (l : ThreadExit A) (o : ThreadModel) → Leaves i here q old before l o → Leaves i here q new after l o
  leaves_keep l o h = record {
    next = both_weaker (LeadsTo old before here) (LeadsTo new after here)
        (λ x y m. leads_keep old new before after k here x y m) l.next (next_of i q o) h.next;
    failed = fails_keep (has_step i q o) l.failed o h.failed;
  }

  pub visits_keep : (v : declared.Visit A) (u : Visit) → VisitShows i here q old before v u
      → VisitShows i here q new after v u
  visits_keep (variants.Enter p) (enter o) h = shows_keep old new before after k p o h
  visits_keep (variants.Leave l) (leave o) h = leaves_keep l o h
  visits_keep (variants.Enter p) (leave o) h = absurd h
  visits_keep (variants.Leave l) (enter o) h = absurd h

  first_keeps : (f : Option (FailedThread A)) (os : List ThreadModel) → FirstFails i q old f os
      → FirstFails i q new f os
  first_keeps None os h = h
  first_keeps (Some f) os h = (h.0, h.1, h.2, h.3, holds_keep old new before after k f.handle (bound_by h.0) h.4, h.5)

-- ---- what is entered

pub enters : {A : Type 0} (i : Input) (argument : Forest) (q : ℕ) (old new : Log) (before after : List (ThreadFrame A))
    (p : Thread A) (s : Steps A) (o : ThreadModel) → Shows old before p o →
    AreSteps i argument q old new before after o s → (f : Option (FailedThread A)) (b : Bool) (h : Handle) → b
    ≡ is_step s
    → h ≡ p.handle →
    ((log : Log) (r : ℕ) (u : ThreadModel) → ops_of p.tail.now ≡ remaining_ops u → Holds log h (bound_by u)
    → FailsBy b r log f u)
    →
    (todo one two three : List (declared.Visit A))
    → one ≡ todo ++ variants.Leave (record { next = s.next; failed = f }) ∷ [] →
    two ≡ one ++ map to_enter (option_to_list s.first) → three ≡ two ++ map to_enter (option_to_list s.second) →
    Enters i (rest_at argument q) q old new before after o todo three
enters {A} i argument q old new before after p s o shows st f b h e same fails todo one two three c d k = record {
  left = left;
  steps = option_to_list s.first ++ option_to_list s.second;
  are = k ∙ ap (λ l. l ++ map to_enter (option_to_list s.second))
      (d ∙ ap (λ l. l ++ map to_enter (option_to_list s.first)) c)
      ∙ append_assoc (todo ++ variants.Leave left ∷ []) (map to_enter (option_to_list s.first))
      (map to_enter (option_to_list s.second))
      ∙ append_assoc todo (variants.Leave left ∷ [])
      (map to_enter (option_to_list s.first) ++ map to_enter (option_to_list s.second))
      ∙ ap (λ l. todo ++ variants.Leave left ∷ l)
      (sym (map-append to_enter (option_to_list s.first) (option_to_list s.second)));
  shown = st.now.epsilons;
  leaves = record {
    next = st.now.next;
    failed = subst (λ x. FailsBy x q new f o) (e ∙ step_same i argument q new after o s st.now)
        (fails new q o (shown_ops old before p o shows)
        (subst (λ x. Holds new x (bound_by o)) (sym same) (shown_bound old new before p o st.kept.log shows)));
  };
  kept = st.kept;
}
  where
    left : ThreadExit A
    left = record { next = s.next; failed = f }

-- ---- what was left

left_append : (vs us : List Visit) → leaves_of (vs ++ us) ≡ leaves_of vs ++ leaves_of us
left_append [] us = refl
left_append (enter o ∷ vs) us = left_append vs us
left_append (leave o ∷ vs) us = ap (λ l. o ∷ l) (left_append vs us)

only_first_append : {X : Type 0} (xs ys : List X) (x : X) → only_first xs ≡ x ∷ [] → only_first (xs ++ ys) ≡ x ∷ []
only_first_append [] ys x e = cc
only_first_append (y ∷ xs) ys x e = e

some_mismatch : (x : Option Mismatch) → is_some x ≡ true → (m : Mismatch) × (x ≡ Some m)
some_mismatch None e = cc
some_mismatch (Some m) e = (m, refl)

module _ (i : Input) (q : ℕ) (os : List ThreadModel) (o : ThreadModel) where
  more : filter_map (mismatch i q) (os ++ o ∷ []) ≡ filter_map (mismatch i q) os ++ option_to_list (mismatch i q o)
  more = filter_map-append (mismatch i q) os (o ∷ [])
      ∙ ap (λ l. filter_map (mismatch i q) os ++ l) (one_step (mismatch i q) o)

module _ {A : Type 0} (i : Input) (q : ℕ) (log : Log) (os : List ThreadModel) (o : ThreadModel) where
  -- the first that fails may be this one
  pub fails_next : (f : Option (FailedThread A)) → FirstFails {A = A} i q log None os
      → FailsBy (has_step i q o) q log f o
      → FirstFails i q log f (os ++ o ∷ [])
  fails_next None h e = more i q os o ∙ ap (λ l. l ++ option_to_list (mismatch i q o)) h ∙ ap option_to_list e
  fails_next (Some f) h e =
      let r : (m : Mismatch) × (mismatch i q o ≡ Some m) = some_mismatch (mismatch i q o) e.0 in (
        o,
        r.0,
        r.1,
        e.1,
        e.2,
        ap only_first (more i q os o ∙ ap (λ l. l ++ option_to_list (mismatch i q o)) h ∙ ap option_to_list r.1),
      )

  -- or it was another
  pub fails_still : (f : FailedThread A) → FirstFails i q log (Some f) os → FirstFails i q log (Some f) (os ++ o ∷ [])
  fails_still f h = (
    h.0,
    h.1,
    h.2,
    h.3,
    h.4,
    ap only_first (more i q os o)
        ∙ only_first_append (filter_map (mismatch i q) os) (option_to_list (mismatch i q o)) h.1 h.5,
  )

-- it is looked at after the place's first ones
pub look_last : {A : Type 0} (i : Input) (q : ℕ) (log : Log) (os : List ThreadModel) (fails : FailedThread A)
    (f : Forest)
    (old new : MatchReport A) (ms : List Mismatch) (before : Notes) →
    FirstFails i q log (Some fails) os → ((l : Log) (x : ThreadModel) (ks : List Mismatch) (n : Notes)
    → ops_of fails.tail.now ≡ remaining_ops x → Holds l fails.handle (bound_by x) →
    IsReportOf l f old ks n → IsReportOf l f new (ks ++ option_to_list (mismatch_unless false q x)) n) →
    IsReportOf log f old ms before → IsReportOf log f new (ms ++ only_first (filter_map (mismatch i q) os)) before
look_last i q log os fails f old new ms before (o, m, e, ops, holds, only) at_stop is =
    subst (λ l. IsReportOf log f new (ms ++ l) before)
    (ap option_to_list (mismatch_fails (has_step i q o) q o m e) ∙ sym only) (at_stop log o ms before ops holds is)

pub look_none : {A : Type 0} (i : Input) (q : ℕ) (log : Log) (os : List ThreadModel) (f : Forest) (r : MatchReport A)
    (ms : List Mismatch) (before : Notes) → FirstFails {A = A} i q log None os →
    IsReportOf log f r ms before → IsReportOf log f r (ms ++ only_first (filter_map (mismatch i q) os)) before
look_none i q log os f r ms before none is =
    subst (λ l. IsReportOf log f r l before) (sym (append-nil ms) ∙ ap (λ l. ms ++ only_first l) (sym none)) is

-- ---- what the loop keeps

-- The visits that are done so far are `out`, and those of the stack are left.
pub record LastWalked {A : Type 0} (i : Input) (pattern : Ops) (q : ℕ) (all : List Visit) (visited : List ℕ) (log : Log)
    (frames : List (ThreadFrame A)) (here : Forest)
    (todo : List (declared.Visit A)) (ws : List (TokenStep A)) (failed : Option (FailedThread A)) : Type 0 where
  pub seen : List ℕ
  pub stack : List Visit
  pub out : List Visit
  pub walks : Walks (backward i pattern q) all (reverse stack) seen out
  pub entered : Entered seen visited (reverse stack)
  pub shown : Each (VisitShows i here q log frames) todo stack
  pub continues : Each (LeadsTo log frames here) ws (filter_map (next_of i q) (leaves_of out))
  pub fails : FirstFails i q log failed (leaves_of out)

-- what all visits leave is what is kept
abbrev pub AreVisits : Input → Ops → ℕ → List ThreadModel → List Visit → Type 0
AreVisits i pattern q os all = leaves_of all ≡ model_back i (state_count pattern) q os

pub last_start : {A : Type 0} (i : Input) (here : Forest) (q size : ℕ) (log : Log) (frames : List (ThreadFrame A))
    (todo : List (declared.Visit A)) (ws : List (TokenStep A))
    (s : IsLastStack i here q size log frames todo) → ws ≡ []
    → (all : List Visit) × AreVisits i s.pattern q s.models all
    × LastWalked i s.pattern q all [] log frames here todo ws None
last_start i here q size log frames todo ws s e =
    let r = backward_start i s.pattern q s.models s.are_here in (
      r.0,
      r.1,
      record {
        seen = [];
        stack = reverse (map enter s.models);
        out = [];
        walks = subst (λ l. Walks (backward i s.pattern q) r.0 l [] []) (sym (reverse-reverse (map enter s.models)))
            r.2;
        entered = subst (Entered [] []) (sym (reverse-reverse (map enter s.models))) (entered_start s.models);
        shown = s.shown;
        continues = subst (λ l. Each (LeadsTo log frames here) l []) (sym e) tt;
        fails = refl;
      },
    )

module _ {A : Type 0} (i : Input) (pattern : Ops) (here : Forest) (q : ℕ) (all : List Visit) (visited : List ℕ)
    (log : Log)
    (frames : List (ThreadFrame A))
    (rest todo : List (declared.Visit A)) (ws : List (TokenStep A)) (failed : Option (FailedThread A)) where
  module _ (p : Thread A) (top : todo ≡ rest ++ variants.Enter p ∷ [])
      (w : LastWalked i pattern q all visited log frames here todo ws failed) where
    popped : ReportedThread (VisitShows i here q log frames) rest (variants.Enter p) w.stack
    popped = last_of (VisitShows i here q log frames) rest (variants.Enter p) w.stack
        (subst (λ l. Each (VisitShows i here q log frames) l w.stack) top w.shown)

    is_enter : (v : Visit) → VisitShows i here q log frames (variants.Enter p) v
        → (o : ThreadModel) × (v ≡ enter o) × Shows log frames p o
    is_enter (enter o) h = (o, refl, h)
    is_enter (leave o) h = absurd h

    entering : (o : ThreadModel) × (popped.last ≡ enter o) × Shows log frames p o
    entering = is_enter popped.last popped.lasts

    pub last_shown : IsThread log frames p
    last_shown = (entering.0, entering.2)

    stack_is : reverse w.stack ≡ enter entering.0 ∷ reverse popped.front
    stack_is = ap reverse popped.is ∙ reverse-append popped.front (popped.last ∷ [])
        ∙ ap (λ v. v ∷ reverse popped.front) entering.1

    walks : Walks (backward i pattern q) all (enter entering.0 ∷ reverse popped.front) w.seen w.out
    walks = subst (λ l. Walks (backward i pattern q) all l w.seen w.out) stack_is w.walks

    entered : Entered w.seen visited (enter entering.0 ∷ reverse popped.front)
    entered = subst (Entered w.seen visited) stack_is w.entered

    number : p.number ≡ thread_state entering.0
    number = shown_number log frames p entering.0 entering.2

    pub last_number : (0 < p.number) × (p.number ≤ state_count pattern)
    unfolding GoodVisit
    last_number = subst (λ n. (0 < n) × (n ≤ state_count pattern)) (sym number)
        (here_number i pattern q entering.0 (walks_good (backward i pattern q) all w.seen w.out (enter entering.0)
        (reverse popped.front) walks))

    -- met before
    pub last_drop : nat_lt (times p.number visited) 1 ≡ false
        → LastWalked i pattern q all visited log frames here rest ws failed
    last_drop few =
        let a : 1 ≤ times (thread_state entering.0) visited =
        subst (λ n. 1 ≤ times n visited) number (ltb-false (times p.number visited) 1 few) in
        let b : times (thread_state entering.0 + thread_state entering.0) w.seen
        ≡ times (thread_state entering.0) visited = entered.once (thread_state entering.0) in
        record {
          seen = w.seen;
          stack = popped.front;
          out = w.out;
          walks = walks_drop (backward i pattern q) all w.seen w.out (enter entering.0) (reverse popped.front) walks
              (omega (arith, a, b));
          entered = entered_drop i q w.seen visited entering.0 (reverse popped.front) entered;
          shown = popped.fronts;
          continues = w.continues;
          fails = w.fails;
        }

    -- else it is entered
    module _ (new : Log) (after : List (ThreadFrame A)) (todo' : List (declared.Visit A))
        (gives : (o : ThreadModel) → Shows log frames p o → Enters i here q log new frames after o rest todo') where
      e : Enters i here q log new frames after entering.0 rest todo'
      e = gives entering.0 entering.2

      each_entered : (ps : List (Thread A)) (os : List ThreadModel) → Each (Shows new after) ps os
          → Each (VisitShows i here q new after) (map to_enter ps) (map enter os)
      each_entered [] [] h = tt
      each_entered [] (o ∷ os) h = absurd h
      each_entered (x ∷ ps) [] h = absurd h
      each_entered (x ∷ ps) (o ∷ os) h = (h.0, each_entered ps os h.1)

      turned : visits_of i q (enter entering.0) ++ reverse popped.front
          ≡ reverse (popped.front ++ leave entering.0 ∷ map enter (epsilons_of i q entering.0))
      turned =
          ap (λ l. (l ++ leave entering.0 ∷ [])
          ++ reverse popped.front) (map_reverse enter (epsilons_of i q entering.0))
          ∙ ap (λ l. l ++ reverse popped.front)
          (sym (reverse-append (leave entering.0 ∷ []) (map enter (epsilons_of i q entering.0))))
          ∙ sym (reverse-append popped.front (leave entering.0 ∷ map enter (epsilons_of i q entering.0)))

      same_left : leaves_of (w.out ++ enter entering.0 ∷ []) ≡ leaves_of w.out
      same_left = left_append w.out (enter entering.0 ∷ []) ∙ append-nil (leaves_of w.out)

      -- three at most are pushed
      pub last_few : length todo' ≤ length rest + 3
      unfolding GoodVisit
      last_few =
          let o = entering.0 in
          let a : length todo' ≡ length rest + length (variants.Leave e.left ∷ map to_enter e.steps) =
          ap length e.are ∙ length-append rest (variants.Leave e.left ∷ map to_enter e.steps) in
          let b : length (map to_enter e.steps) ≡ length e.steps = length-map e.steps to_enter in
          let c : length e.steps ≡ length (epsilons_of i q o) =
          each_length (Shows new after) e.steps (epsilons_of i q o) e.shown in
          let d : length (epsilons_of i q o) ≤ 2 =
          here_few i pattern q o (walks_good (backward i pattern q) all w.seen w.out (enter o)
          (reverse popped.front) walks) in
          omega (arith, a, b, c, d)

      pub last_take : nat_lt (times p.number visited) 1 ≡ true
          → LastWalked i pattern q all (p.number ∷ visited) new after here todo' ws failed
      last_take few =
          let a : times (thread_state entering.0) visited < 1 =
          subst (λ n. times n visited < 1) number (ltb-true (times p.number visited) 1 few) in
          let b : times (thread_state entering.0 + thread_state entering.0) w.seen
          ≡ times (thread_state entering.0) visited = entered.once (thread_state entering.0) in
          record {
            seen = key_of (enter entering.0) ∷ w.seen;
            stack = popped.front ++ leave entering.0 ∷ map enter (epsilons_of i q entering.0);
            out = w.out ++ enter entering.0 ∷ [];
            walks = subst (λ l. Walks (backward i pattern q) all l (key_of (enter entering.0) ∷ w.seen)
                (w.out ++ enter entering.0 ∷ [])) turned
                (walks_take (backward i pattern q) all w.seen w.out (enter entering.0) (reverse popped.front) walks
                (omega (arith, a, b)));
            entered = subst (λ n. Entered (key_of (enter entering.0) ∷ w.seen) (n ∷ visited)
                (reverse (popped.front ++ leave entering.0 ∷ map enter (epsilons_of i q entering.0)))) (sym number)
                (subst (Entered (key_of (enter entering.0) ∷ w.seen) (thread_state entering.0 ∷ visited)) turned
                (entered_take i q w.seen visited entering.0 (reverse popped.front) entered (omega (arith, a))));
            shown = subst (λ l. Each (VisitShows i here q new after) l
                (popped.front ++ leave entering.0 ∷ map enter (epsilons_of i q entering.0))) (sym e.are)
                (each_append (VisitShows i here q new after) rest (variants.Leave e.left ∷ map to_enter e.steps)
                popped.front (leave entering.0 ∷ map enter (epsilons_of i q entering.0))
                (each_weaker (VisitShows i here q log frames) (VisitShows i here q new after)
                (visits_keep i here q log new frames after e.kept) rest popped.front popped.fronts)
                (e.leaves, each_entered e.steps (epsilons_of i q entering.0) e.shown));
            continues = subst (λ l. Each (LeadsTo new after here) ws (filter_map (next_of i q) l)) (sym same_left)
                (each_weaker (LeadsTo log frames here) (LeadsTo new after here)
                (λ x y h. leads_keep log new frames after e.kept here x y h) ws
                (filter_map (next_of i q) (leaves_of w.out)) w.continues);
            fails = subst (FirstFails i q new failed) (sym same_left)
                (first_keeps i here q log new frames after e.kept failed (leaves_of w.out) w.fails);
          }

  module _ (l : ThreadExit A) (top : todo ≡ rest ++ variants.Leave l ∷ [])
      (w : LastWalked i pattern q all visited log frames here todo ws failed) where
    popped_left : ReportedThread (VisitShows i here q log frames) rest (variants.Leave l) w.stack
    popped_left = last_of (VisitShows i here q log frames) rest (variants.Leave l) w.stack
        (subst (λ t. Each (VisitShows i here q log frames) t w.stack) top w.shown)

    is_leave : (v : Visit) → VisitShows i here q log frames (variants.Leave l) v
        → (o : ThreadModel) × (v ≡ leave o) × Leaves i here q log frames l o
    is_leave (enter o) h = absurd h
    is_leave (leave o) h = (o, refl, h)

    leaving : (o : ThreadModel) × (popped_left.last ≡ leave o) × Leaves i here q log frames l o
    leaving = is_leave popped_left.last popped_left.lasts

    left_is : reverse w.stack ≡ leave leaving.0 ∷ reverse popped_left.front
    left_is = ap reverse popped_left.is ∙ reverse-append popped_left.front (popped_left.last ∷ [])
        ∙ ap (λ v. v ∷ reverse popped_left.front) leaving.1

    walks_left : Walks (backward i pattern q) all (leave leaving.0 ∷ reverse popped_left.front) w.seen w.out
    walks_left = subst (λ t. Walks (backward i pattern q) all t w.seen w.out) left_is w.walks

    entered_left : Entered w.seen visited (leave leaving.0 ∷ reverse popped_left.front)
    entered_left = subst (Entered w.seen visited) left_is w.entered

    one_more : leaves_of (w.out ++ leave leaving.0 ∷ []) ≡ leaves_of w.out ++ leaving.0 ∷ []
    one_more = left_append w.out (leave leaving.0 ∷ [])

    -- what fails first, after this one
    next_fails : (f : Option (FailedThread A)) → ((failed ≡ None) × (f ≡ l.failed))
        → FirstFails i q log f (leaves_of w.out ++ leaving.0 ∷ [])
    next_fails f (n, e) = subst (λ x. FirstFails i q log x (leaves_of w.out ++ leaving.0 ∷ [])) (sym e)
        (fails_next i q log (leaves_of w.out) leaving.0 l.failed
        (subst (λ x. FirstFails i q log x (leaves_of w.out)) n w.fails) leaving.2.failed)

    still_fails : (f : Option (FailedThread A)) → is_some failed ≡ true → f ≡ failed
        → FirstFails i q log f (leaves_of w.out ++ leaving.0 ∷ [])
    still_fails f s e = subst (λ x. FirstFails i q log x (leaves_of w.out ++ leaving.0 ∷ [])) (sym e)
        (go failed s w.fails)
      where
        go : (x : Option (FailedThread A)) → is_some x ≡ true → FirstFails i q log x (leaves_of w.out)
            → FirstFails i q log x (leaves_of w.out ++ leaving.0 ∷ [])
        go None n h = cc
        go (Some x) n h = fails_still i q log (leaves_of w.out) leaving.0 x h

    left_on : (ws' : List (TokenStep A)) (f : Option (FailedThread A)) → ws' ≡ ws ++ option_to_list l.next
        → FirstFails i q log f (leaves_of w.out ++ leaving.0 ∷ []) →
        LastWalked i pattern q all visited log frames here rest ws' f
    left_on ws' f waits h = record {
      seen = key_of (leave leaving.0) ∷ w.seen;
      stack = popped_left.front;
      out = w.out ++ leave leaving.0 ∷ [];
      walks = walks_take (backward i pattern q) all w.seen w.out (leave leaving.0) (reverse popped_left.front)
          walks_left
          (leaves_now i q w.seen visited leaving.0 (reverse popped_left.front) entered_left);
      entered = entered_leave i q w.seen visited leaving.0 (reverse popped_left.front) entered_left;
      shown = popped_left.fronts;
      continues = subst (λ t. Each (LeadsTo log frames here) t
          (filter_map (next_of i q) (leaves_of (w.out ++ leave leaving.0 ∷ [])))) (sym waits)
          (subst (Each (LeadsTo log frames here) (ws ++ option_to_list l.next))
          (sym (ap (filter_map (next_of i q)) one_more
          ∙ filter_map-append (next_of i q) (leaves_of w.out) (leaving.0 ∷ [])
          ∙ ap (λ t. filter_map (next_of i q) (leaves_of w.out) ++ t) (one_step (next_of i q) leaving.0)))
          (each_append (LeadsTo log frames here) ws (option_to_list l.next) (filter_map (next_of i q) (leaves_of w.out))
          (option_to_list (next_of i q leaving.0))
          w.continues (both_each (LeadsTo log frames here) l.next (next_of i q leaving.0) leaving.2.next)));
      fails = subst (FirstFails i q log f) (sym one_more) h;
    }

    pub last_leave : (ws' : List (TokenStep A)) (f : Option (FailedThread A)) → ws' ≡ ws ++ option_to_list l.next
        → f ≡ option_or failed l.failed → LastWalked i pattern q all visited log frames here rest ws' f
    last_leave ws' f waits e = left_on ws' f waits (go failed refl e)
      where
        go : (x : Option (FailedThread A)) → failed ≡ x → f ≡ option_or x l.failed
            → FirstFails i q log f (leaves_of w.out ++ leaving.0 ∷ [])
        go None n e = next_fails f (n, e)
        go (Some x) n e = still_fails f (ap is_some n) (e ∙ sym n)

pub last_end : {A : Type 0} (i : Input) (pattern : Ops) (q : ℕ) (os : List ThreadModel) (all : List Visit)
    (visited : List ℕ)
    (log : Log) (frames : List (ThreadFrame A)) (here : Forest)
    (todo : List (declared.Visit A)) (ws : List (TokenStep A)) (failed : Option (FailedThread A)) → todo ≡ []
    → AreVisits i pattern q os all →
    LastWalked i pattern q all visited log frames here todo ws failed
    → AreLasts i q pattern os log frames here ws failed
last_end i pattern q os all visited log frames here todo ws failed e is w =
    let none : w.stack ≡ [] = each_none (VisitShows i here q log frames) w.stack
    (subst (λ l. Each (VisitShows i here q log frames) l w.stack) e w.shown) in
    let done : w.out ≡ all = walks_end (backward i pattern q) all w.seen w.out
    (subst (λ l. Walks (backward i pattern q) all (reverse l) w.seen w.out) none w.walks) in
    record {
      continues = subst (λ l. Each (LeadsTo log frames here) ws (filter_map (next_of i q) l)) (ap leaves_of done ∙ is)
          w.continues;
      fails = subst (FirstFails i q log failed) (ap leaves_of done ∙ is) w.fails;
    }
