-- The loop over the first position of each dot.
use Rattle.std.proofs.Common.{ℕ, Bool, ◌≡◌, ◌<◌, ◌≤◌, true, false, option_to_list, List, [], ◌∷◌, ◌++◌, reverse, sym}
use Rattle.std.proofs.Common.{ap, subst, ◌∙◌}
use Rattle.std.specs.Prelude.{nat_lt}
use Rattle.std.specs.List.{filter_map}
use Rattle.std.proofs.lemmas.Bool.{ltb-true, ltb-false}
use Rattle.std.proofs.lemmas.List.{reverse-append, reverse-reverse}
use Rattle.mbe_tt.specs.Trees.Tree.{Forest, rest_at}
use Rattle.mbe_semantics.specs.Readings.Input.{Input}
use Rattle.mbe_semantics.specs.Syntax.Op.{Ops}
use Rattle.mbe_semantics.specs.Bindings.Account.{Log, Handle}
use Rattle.mbe_semantics.specs.Matching.States.{state_count, thread_state}
use Rattle.mbe_semantics.specs.Matching.ThreadModel.{ThreadModel, epsilons_of, next_of, finished_of}
use Rattle.mbe_laws.specs.Bounded.ClosureTwoEach.{times}
use Rattle.mbe_ops.specs.Views.{ops_of}
use Rattle.mbe_threads.specs.declared.thread.ThreadFrame.{ThreadFrame}
use Rattle.mbe_threads.specs.declared.thread.Thread.{Thread}
use Rattle.mbe_threads.specs.declared.thread.Steps.{Steps}
use Rattle.mbe_threads.specs.declared.thread.TokenStep.{TokenStep}
use Rattle.mbe_matcher.specs.declared.match_report.MatchReport.{MatchReport}
use Rattle.mbe_matcher.specs.Threads.{Each, Shows, IsThread, LeadsTo, Holds, AreSteps}
use Rattle.mbe_matcher.specs.Failures.{Mismatch, Notes, mismatch, mismatch_unless, remaining_ops, bound_by}
use Rattle.mbe_matcher.specs.Reports.{IsReportOf}
use Rattle.mbe_matcher.specs.FirstAndLast.{model_first}
use Rattle.mbe_matcher.specs.ReportPass.{IsFirstStack, AreFirsts}
use Rattle.mbe_matcher.proofs.Reporting.{is_step}
use Rattle.mbe_matcher.proofs.Frontiers.{ReportedThread, last_of, each_none, shown_number, shown_on, leads_on, ends_on}
use Rattle.mbe_matcher.proofs.Frontiers.{report_on}
use Rattle.mbe_matcher.proofs.Walking.{Walks, walks_end, walks_good, walks_drop, walks_take, here_number, forward}
use Rattle.mbe_matcher.proofs.Walking.{forward_start}

-- The outlines that are followed so far are `out`, and those of the stack are left.
pub record FirstWalked {A : Type 0} (i : Input) (pattern : Ops) (q : ℕ) (all : List ThreadModel) (visited : List ℕ)
    (log : Log)
    (frames : List (ThreadFrame A)) (here : Forest)
    (todo : List (Thread A)) (ws : List (TokenStep A)) (hs : List Handle) : Type 0 where
  pub stack : List ThreadModel
  pub out : List ThreadModel
  pub walks : Walks (forward i pattern q) all (reverse stack) visited out
  pub shown : Each (Shows log frames) todo stack
  pub continues : Each (LeadsTo log frames here) ws (filter_map (next_of i q) out)
  pub ended : Each (Holds log) hs (filter_map finished_of out)

pub first_start : {A : Type 0} (i : Input) (q size : ℕ) (log : Log) (frames : List (ThreadFrame A)) (here : Forest)
    (todo : List (Thread A)) (ws : List (TokenStep A)) (hs : List Handle)
    (s : IsFirstStack i q size log frames todo) → ws ≡ [] → hs ≡ []
    → FirstWalked i s.pattern q (model_first i (state_count s.pattern) q s.models) [] log frames here todo ws hs
first_start i q size log frames here todo ws hs s e f = record {
  stack = reverse s.models;
  out = [];
  walks = subst (λ l. Walks (forward i s.pattern q) (model_first i (state_count s.pattern) q s.models) l [] [])
      (sym (reverse-reverse s.models)) (forward_start i s.pattern q s.models s.here);
  shown = s.shown;
  continues = subst (λ l. Each (LeadsTo log frames here) l []) (sym e) tt;
  ended = subst (λ l. Each (Holds log) l []) (sym f) tt;
}

pub noted_start : {A : Type 0} (i : Input) (q size : ℕ) (log : Log) (frames : List (ThreadFrame A)) (here : Forest)
    (todo : List (Thread A)) (ws : List (TokenStep A)) (hs : List Handle)
    (s : IsFirstStack i q size log frames todo) (e : ws ≡ []) (g : hs ≡ []) (f : Forest) (r : MatchReport A) (n : Notes)
    → IsReportOf log f r [] n →
    IsReportOf log f r (filter_map (mismatch i q) (first_start i q size log frames here todo ws hs s e g).out) n
unfolding first_start
noted_start i q size log frames here todo ws hs s e g f r n is = is

module _ {A : Type 0} (i : Input) (pattern : Ops) (argument : Forest) (q : ℕ) (all : List ThreadModel)
    (visited : List ℕ)
    (log : Log) (frames : List (ThreadFrame A))
    (rest todo : List (Thread A)) (p : Thread A) (ws : List (TokenStep A)) (hs : List Handle)
    (top : todo ≡ rest ++ p ∷ [])
    (w : FirstWalked i pattern q all visited log frames (rest_at argument q) todo ws hs) where
  popped : ReportedThread (Shows log frames) rest p w.stack
  popped = last_of (Shows log frames) rest p w.stack (subst (λ l. Each (Shows log frames) l w.stack) top w.shown)

  pub first_shown : IsThread log frames p
  first_shown = (popped.last, popped.lasts)

  walks : Walks (forward i pattern q) all (popped.last ∷ reverse popped.front) visited w.out
  walks = subst (λ l. Walks (forward i pattern q) all l visited w.out)
      (ap reverse popped.is ∙ reverse-append popped.front (popped.last ∷ [])) w.walks

  number : p.number ≡ thread_state popped.last
  number = shown_number log frames p popped.last popped.lasts

  -- the number of the position is that of a dot
  pub first_number : (0 < p.number) × (p.number ≤ state_count pattern)
  first_number = subst (λ n. (0 < n) × (n ≤ state_count pattern)) (sym number)
      (here_number i pattern q popped.last (walks_good (forward i pattern q) all visited w.out popped.last
      (reverse popped.front) walks))

  -- met before
  pub first_drop : nat_lt (times p.number visited) 1 ≡ false
      → FirstWalked i pattern q all visited log frames (rest_at argument q) rest ws hs
  first_drop few = record {
    stack = popped.front;
    out = w.out;
    walks = walks_drop (forward i pattern q) all visited w.out popped.last (reverse popped.front) walks
        (subst (λ n. 1 ≤ times n visited) number (ltb-false (times p.number visited) 1 few));
    shown = popped.fronts;
    continues = w.continues;
    ended = w.ended;
  }

  pub noted_drop : (few : nat_lt (times p.number visited) 1 ≡ false) (f : Forest) (r : MatchReport A) (n : Notes)
      → IsReportOf log f r (filter_map (mismatch i q) w.out) n →
      IsReportOf log f r (filter_map (mismatch i q) (first_drop few).out) n
  unfolding first_drop
  noted_drop few f r n is = is

  -- else its steps are followed
  module _ (new : Log) (after : List (ThreadFrame A)) (s : Steps A) (todo' : List (Thread A)) (ws' : List (TokenStep A))
      (hs' : List Handle)
      (gives : (o : ThreadModel) → Shows log frames p o → AreSteps i argument q log new frames after o s)
      (pushed : todo' ≡ (rest ++ option_to_list s.second) ++ option_to_list s.first)
      (waits : ws' ≡ ws ++ option_to_list s.next) (ends : hs' ≡ hs ++ option_to_list s.done) where
    pub first_take : nat_lt (times p.number visited) 1 ≡ true
        → FirstWalked i pattern q all (p.number ∷ visited) new after (rest_at argument q) todo' ws' hs'
    first_take few = record {
      stack = popped.front ++ reverse (epsilons_of i q popped.last);
      out = w.out ++ popped.last ∷ [];
      walks = subst (λ n. Walks (forward i pattern q) all
          (reverse (popped.front ++ reverse (epsilons_of i q popped.last)))
          (n ∷ visited) (w.out ++ popped.last ∷ [])) (sym number)
          (subst (λ l. Walks (forward i pattern q) all l (thread_state popped.last ∷ visited) (w.out ++ popped.last
          ∷ []))
          (ap (λ l. l ++ reverse popped.front) (sym (reverse-reverse (epsilons_of i q popped.last)))
          ∙ sym (reverse-append popped.front (reverse (epsilons_of i q popped.last))))
          (walks_take (forward i pattern q) all visited w.out popped.last (reverse popped.front) walks
          (subst (λ n. times n visited < 1) number (ltb-true (times p.number visited) 1 few))));
      shown = shown_on i argument q log frames rest p w.stack popped new after s gives todo' pushed;
      continues =
          leads_on i argument q log frames rest p w.stack popped new after s gives w.out ws ws' waits w.continues;
      ended = ends_on i argument q log frames rest p w.stack popped new after s gives w.out hs hs' ends w.ended;
    }

    -- and it is noted where it fails
    pub noted_take : (few : nat_lt (times p.number visited) 1
        ≡ true) (f : Forest) (r r' : MatchReport A) (n : Notes) (b : Bool)
        (h : Handle) → b ≡ is_step s → h ≡ p.handle →
        ((l : Log) (x : ThreadModel) (ms : List Mismatch) (m : Notes) → ops_of p.tail.now ≡ remaining_ops x
        → Holds l h (bound_by x)
        → IsReportOf l f r ms m →
        IsReportOf l f r' (ms ++ option_to_list (mismatch_unless b q x)) m) →
        IsReportOf log f r (filter_map (mismatch i q) w.out) n
        → IsReportOf new f r' (filter_map (mismatch i q) (first_take few).out) n
    unfolding first_take
    noted_take few f r r' n b h e same at_stop is =
        report_on i argument q log frames rest p w.stack popped new after s gives w.out f r r' n b h e same at_stop is

pub first_done : {A : Type 0} (i : Input) (pattern : Ops) (q : ℕ) (all : List ThreadModel) (log : Log)
    (frames : List (ThreadFrame A)) (here : Forest) (todo : List (Thread A)) (visited : List ℕ)
    (ws : List (TokenStep A)) (hs : List Handle) → todo ≡ []
    → (w : FirstWalked i pattern q all visited log frames here todo ws hs) → w.out ≡ all
first_done i pattern q all log frames here todo visited ws hs e w =
    let none : w.stack ≡ [] = each_none (Shows log frames) w.stack
    (subst (λ l. Each (Shows log frames) l w.stack) e w.shown) in
    walks_end (forward i pattern q) all visited w.out
    (subst (λ l. Walks (forward i pattern q) all (reverse l) visited w.out) none w.walks)

pub first_end : {A : Type 0} (i : Input) (pattern : Ops) (q : ℕ) (os : List ThreadModel) (log : Log)
    (frames : List (ThreadFrame A)) (here : Forest) (todo : List (Thread A)) (visited : List ℕ)
    (ws : List (TokenStep A)) (hs : List Handle) → todo ≡ []
    → FirstWalked i pattern q (model_first i (state_count pattern) q os) visited log frames here todo ws hs →
    AreFirsts i q pattern os log frames here ws hs
first_end i pattern q os log frames here todo visited ws hs e w =
    let done =
    first_done i pattern q (model_first i (state_count pattern) q os) log frames here todo visited ws hs e w in
    record {
      continues = subst (λ l. Each (LeadsTo log frames here) ws (filter_map (next_of i q) l)) done w.continues;
      ended = subst (λ l. Each (Holds log) hs (filter_map finished_of l)) done w.ended;
    }
