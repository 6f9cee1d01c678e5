-- The loop over the positions that are looked at where a match stops.
use Rattle.std.proofs.Common.{ℕ, ◌≡◌, ◌<◌, ◌≤◌, true, false, Option, Some, None, option_map, option_to_list, List, []}
use Rattle.std.proofs.Common.{◌∷◌, ◌++◌, map, reverse, Bor, refl, sym, ap, subst, ◌∙◌}
use Rattle.std.specs.Prelude.{nat_lt, is_some}
use Rattle.std.specs.Option.{option_copied}
use Rattle.std.proofs.lemmas.Bool.{ltb-true, ltb-false}
use Rattle.std.proofs.lemmas.List.{map-append}
use Rattle.mbe_tt.specs.Trees.Tree.{Forest, rest_at}
use Rattle.mbe_semantics.specs.Readings.Input.{Input}
use Rattle.mbe_semantics.specs.Syntax.Op.{Ops}
use Rattle.mbe_semantics.specs.Bindings.Account.{Log}
use Rattle.mbe_semantics.specs.Matching.States.{state_count, thread_state}
use Rattle.mbe_semantics.specs.Matching.ThreadModel.{ThreadModel, Advance, advance, epsilons_of, next_of}
use Rattle.mbe_laws.specs.Bounded.ClosureTwoEach.{times}
use Rattle.mbe_laws.specs.Loop.StackClosure.{kept}
use Rattle.mbe_laws.proofs.Loop.TurnedLoop.{KeepsTo, turned_keeps, turned_done, turned_number, turned_drop, turned_take}
use Rattle.mbe_threads.specs.declared.thread.ThreadFrame.{ThreadFrame}
use Rattle.mbe_threads.specs.declared.thread.Thread.{Thread}
use Rattle.mbe_threads.specs.declared.thread.Steps.{Steps}
use Rattle.mbe_threads.specs.declared.thread.TokenStep.{TokenStep}
use Rattle.mbe_matcher.specs.declared.expectations.StepWidth.{StepWidth}
use Rattle.mbe_matcher.specs.declared.expectations.Expected as code
use Rattle.mbe_matcher.specs.declared.expectations.NextStep.{NextStep}
use Rattle.mbe_matcher.specs.Threads.{Each, Both, Shows, IsThread, LeadsTo, AreSteps, Keeps}
use Rattle.mbe_matcher.specs.MatchResults.{IsStack}
use Rattle.mbe_matcher.specs.Expected.{expected_seen, thread_expects, step_of_advance, thread_continuation}
use Rattle.mbe_matcher.specs.Expected.{next_step_seen}
use Rattle.mbe_matcher.proofs.Keeping.{each_weaker, shows_keep}
use Rattle.mbe_matcher.proofs.Frontiers.{ReportedThread, last_of, each_none, shown_number, shown_on}

-- the step that waits
abbrev pub waits : {A : Type 0} → Option (TokenStep A) → Option StepWidth
waits w = option_map (λ x. record { width = x.width; by_fragment = is_some x.beyond }) w

pub waits_same : {A : Type 0} (r : Option (Bor (TokenStep A))) (w : Option (TokenStep A)) → option_copied r ≡ w →
    option_map (λ x. (let s : StepWidth = record { width = x.now.width; by_fragment = is_some x.now.beyond } in s)) r
    ≡ waits w
waits_same None w e = ap waits e
waits_same (Some x) w e = ap waits e

same_step : {A : Type 0} (log : Log) (frames : List (ThreadFrame A)) (here : Forest) (w : Option (TokenStep A))
    (a : Option Advance) → Both (LeadsTo log frames here) w a → waits w ≡ step_of_advance a
same_step log frames here None None b = refl
same_step log frames here (Some w) None b = absurd b
same_step log frames here None (Some a) b = absurd b
same_step log frames here (Some w) (Some (advance n f o)) b =
    ap (λ m. Some (let s : StepWidth = record { width = m; by_fragment = is_some w.beyond } in s)) b.width_is
    ∙ ap (λ g. Some (let s : StepWidth = record { width = n; by_fragment = g } in s)) b.fragment_is

-- The outlines that are looked at so far are `out`, and those of the stack are left.
pub record Looking {A : Type 0} (i : Input) (pattern : Ops) (q : ℕ) (all : List ThreadModel) (visited : List ℕ)
    (log : Log)
    (frames : List (ThreadFrame A))
    (todo : List (Thread A)) (next_steps : List (NextStep A)) : Type 0 where
  pub stack : List ThreadModel
  pub out : List ThreadModel
  pub keeps : KeepsTo i pattern q all stack visited out
  pub shown : Each (Shows log frames) todo stack
  pub at_stop : map next_step_seen next_steps ≡ map (thread_continuation i q) out

pub looking_start : {A : Type 0} (i : Input) (q size : ℕ) (log : Log) (frames : List (ThreadFrame A))
    (todo : List (Thread A)) (next_steps : List (NextStep A))
    (s : IsStack i q size log frames todo) → next_steps ≡ []
    → Looking i s.pattern q (kept i (state_count s.pattern) q (reverse s.thread_stack)) [] log frames todo next_steps
looking_start i q size log frames todo next_steps s e = record {
  stack = s.thread_stack;
  out = [];
  keeps = turned_keeps i s.pattern q s.partial_readings s.thread_stack s.stack.sound s.stack.same;
  shown = s.shown;
  at_stop = ap (map next_step_seen) e;
}

module _ {A : Type 0} (i : Input) (pattern : Ops) (argument : Forest) (q : ℕ) (all : List ThreadModel)
    (visited : List ℕ)
    (log : Log) (frames : List (ThreadFrame A))
    (rest todo : List (Thread A)) (p : Thread A) (next_steps : List (NextStep A)) (top : todo ≡ rest ++ p ∷ [])
    (w : Looking i pattern q all visited log frames todo next_steps) where
  popped : ReportedThread (Shows log frames) rest p w.stack
  popped = last_of (Shows log frames) rest p w.stack (subst (λ l. Each (Shows log frames) l w.stack) top w.shown)

  pub looking_shown : IsThread log frames p
  looking_shown = (popped.last, popped.lasts)

  keeps : KeepsTo i pattern q all (popped.front ++ popped.last ∷ []) visited w.out
  keeps = subst (λ l. KeepsTo i pattern q all l visited w.out) popped.is w.keeps

  number : p.number ≡ thread_state popped.last
  number = shown_number log frames p popped.last popped.lasts

  -- the number of the position is that of a dot
  pub looking_number : (0 < p.number) × (p.number ≤ state_count pattern)
  looking_number = subst (λ n. (0 < n) × (n ≤ state_count pattern)) (sym number)
      (turned_number i pattern q all visited w.out popped.last popped.front keeps)

  -- met twice before
  pub looking_drop : nat_lt (times p.number visited) 2 ≡ false
      → Looking i pattern q all visited log frames rest next_steps
  looking_drop few = record {
    stack = popped.front;
    out = w.out;
    keeps = (turned_drop i pattern q all visited w.out popped.last popped.front keeps
        (subst (λ n. 2 ≤ times n visited) number (ltb-false (times p.number visited) 2 few))).0;
    shown = popped.fronts;
    at_stop = w.at_stop;
  }

  -- else it is looked at, and its steps are followed
  pub looking_take : (new : Log) (after : List (ThreadFrame A)) (s : Steps A) (todo' : List (Thread A))
      (next_steps' : List (NextStep A)) (next : Option (code.Expected A)) (step : Option StepWidth) →
      ((o : ThreadModel) → Shows log frames p o → AreSteps i argument q log new frames after o s) →
      ((l : Log) (o : ThreadModel) → Shows l frames p o → option_map expected_seen next ≡ thread_expects o)
      → step ≡ waits s.next →
      todo' ≡ (rest ++ option_to_list s.second) ++ option_to_list s.first
      → next_steps' ≡ next_steps ++ (record { next = next; step = step } ∷ []) →
      nat_lt (times p.number visited) 2 ≡ true
      → Looking i pattern q all (p.number ∷ visited) new after todo' next_steps'
  looking_take new after s todo' next_steps' next step gives wants stepped pushed grown few = record {
    stack = popped.front ++ reverse (epsilons_of i q popped.last);
    out = w.out ++ popped.last ∷ [];
    keeps = subst (λ n. KeepsTo i pattern q all (popped.front ++ reverse (epsilons_of i q popped.last)) (n ∷ visited)
        (w.out ++ popped.last ∷ [])) (sym number)
        (turned_take i pattern q all visited w.out popped.last popped.front keeps
        (subst (λ n. times n visited < 2) number (ltb-true (times p.number visited) 2 few))).0;
    shown = shown_on i argument q log frames rest p w.stack popped new after s gives todo' pushed;
    at_stop = at_stop;
  }
    where
      st : AreSteps i argument q log new frames after popped.last s
      st = gives popped.last popped.lasts

      next_step : NextStep A
      next_step = record { next = next; step = step }

      same : next_step_seen next_step ≡ thread_continuation i q popped.last
      same =
          ap (λ n. (let x : Rattle.mbe_matcher.specs.Expected.Continuation = record { next = n; step = step } in x))
          (wants log popped.last popped.lasts)
          ∙ ap (λ t. (let x : Rattle.mbe_matcher.specs.Expected.Continuation =
          record { next = thread_expects popped.last; step = t } in x))
          (stepped ∙ same_step new after (rest_at argument q) s.next (next_of i q popped.last) st.now.next)

      at_stop : map next_step_seen next_steps' ≡ map (thread_continuation i q) (w.out ++ popped.last ∷ [])
      at_stop =
          ap (map next_step_seen) grown ∙ map-append next_step_seen next_steps (next_step ∷ [])
          ∙ ap (λ l. l ++ (next_step_seen next_step ∷ [])) w.at_stop
          ∙ ap (λ x. map (thread_continuation i q) w.out ++ (x ∷ [])) same
          ∙ sym (map-append (thread_continuation i q) w.out (popped.last ∷ []))

pub looking_end : {A : Type 0} (i : Input) (q size : ℕ) (old log : Log) (before frames : List (ThreadFrame A))
    (first todo : List (Thread A)) (visited : List ℕ) (next_steps : List (NextStep A))
    (s : IsStack i q size old before first) → todo ≡ []
    → Looking i s.pattern q (kept i (state_count s.pattern) q (reverse s.thread_stack)) visited log frames todo
    next_steps →
    map next_step_seen next_steps ≡ map (thread_continuation i q)
    (kept i (state_count s.pattern) q (reverse s.thread_stack))
looking_end i q size old log before frames first todo visited next_steps s e w =
    let none : w.stack ≡ [] = each_none (Shows log frames) w.stack
    (subst (λ l. Each (Shows log frames) l w.stack) e w.shown) in
    w.at_stop ∙ ap (map (thread_continuation i q))
    (turned_done i s.pattern q (kept i (state_count s.pattern) q (reverse s.thread_stack)) visited w.out
    (subst (λ l. KeepsTo i s.pattern q (kept i (state_count s.pattern) q (reverse s.thread_stack)) l visited w.out) none
    w.keeps))

-- a stack of copies, in the log and the outer items as they are later
abbrev pub stack_kept : {A : Type 0} (i : Input) (q size : ℕ) (old new : Log) (before after : List (ThreadFrame A))
    (todo stack : List (Thread A)) →
    IsStack i q size old before todo → Keeps old new before after → stack ≡ todo → IsStack i q size new after stack
stack_kept i q size old new before after todo stack s kept same = record {
  pattern = s.pattern;
  size_is = s.size_is;
  partial_readings = s.partial_readings;
  thread_stack = s.thread_stack;
  stack = s.stack;
  shown = subst (λ l. Each (Shows new after) l s.thread_stack) (sym same)
      (each_weaker (Shows old before) (Shows new after) (λ x y h. shows_keep old new before after kept x y h) todo
      s.thread_stack s.shown);
}
