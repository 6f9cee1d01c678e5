-- The last partial reading of each state, by a stack as well: each partial reading is entered, and
-- left after all that comes from it.
use Rattle.std.specs.Prelude.{ℕ, suc, ◌+◌, ◌≡◌, List, [], ◌∷◌, ◌++◌, map, reverse, length}
use Rattle.mbe_tt.specs.Trees.Tree.{Forest}
use Rattle.mbe_tt.specs.Grammars.Grammar.{Grammar, IsLawful}
use Rattle.mbe_semantics.specs.Syntax.Op.{Ops}
use Rattle.mbe_semantics.specs.Readings.Input.{Input, input_of}
use Rattle.mbe_semantics.specs.Readings.Reading.{PartialReading, EndsAt}
use Rattle.mbe_semantics.specs.Readings.Steps.{epsilons}
use Rattle.mbe_semantics.specs.Syntax.Nullable.{Checked}
use Rattle.mbe_semantics.specs.Matching.Lists.{In}
use Rattle.mbe_semantics.specs.Matching.Closure.{closure, moves_of, targets}
use Rattle.mbe_semantics.specs.Matching.States.{state_count, state_number}
use Rattle.mbe_laws.specs.Bounded.ClosureTwoEach.{walk, turns}
use Rattle.mbe_laws.specs.Reports.Ends.{firsts, lasts, reversed_targets}

pub data Visit : Type 0 where
  enter : PartialReading → Visit
  leave : PartialReading → Visit

-- the last epsilon step first, and after all its steps the partial reading itself
abbrev pub visits : Input → ℕ → Visit → List Visit
visits i q (enter x) = map enter (reverse (epsilons i q x)) ++ (leave x ∷ [])
visits i q (leave x) = []

-- each state is entered once, and left once
abbrev pub visit_number : Visit → ℕ
visit_number (enter x) = state_number x + state_number x
visit_number (leave x) = suc (state_number x + state_number x)

abbrev pub leaves_in : List Visit → List PartialReading
leaves_in [] = []
leaves_in (enter x ∷ vs) = leaves_in vs
leaves_in (leave x ∷ vs) = x ∷ leaves_in vs

-- the most iterations of the backward walk
abbrev pub visit_turns : ℕ → ℕ → ℕ
visit_turns n d = n + (d + d + d + d + d + d) + 4

-- The last of each state in the closure of those that arrived, the last first. The stack has the
-- last on top.
abbrev pub closure_back : Input → ℕ → ℕ → List PartialReading → List PartialReading
closure_back i d q ys =
    leaves_in (walk (visits i q) visit_number 1 (visit_turns (length ys) d) [] (map enter ys))

-- the first of each state in the closure of those that arrived, in order
abbrev pub closure_first : Input → ℕ → ℕ → List PartialReading → List PartialReading
closure_first i d q xs = walk (epsilons i q) state_number 1 (turns (length xs) d) [] xs

-- the forward walk and the backward walk
pub record BothDirections (g : Grammar) (pattern : Ops) (argument : Forest) (q : ℕ)
    (xs : List PartialReading) : Type 0 where
  pub forward : closure_first (input_of g argument) (state_count pattern) q xs
      ≡ firsts (closure (input_of g argument) q xs)
  pub backward : closure_back (input_of g argument) (state_count pattern) q (reverse xs)
      ≡ reverse (lasts (closure (input_of g argument) q xs))

abbrev pub BothDirectionsLaw : Type 0
BothDirectionsLaw = (g : Grammar) (pattern : Ops) (argument : Forest) → IsLawful g → Checked pattern
    → (q : ℕ) (xs : List PartialReading) →
    ((x : PartialReading) → In x xs → EndsAt (input_of g argument) pattern q x)
    → BothDirections g pattern argument q xs

-- From each offset to the next the two lists change roles. For all that the closure at q has, it is
-- enough to keep the first of each state in order, and the last of each state with the last in
-- front. The steps of one list give the other.
pub record Swap (g : Grammar) (pattern : Ops) (argument : Forest) (q m : ℕ)
    (ys : List PartialReading) : Type 0 where
  pub first : closure_first (input_of g argument) (state_count pattern) m
      (targets (moves_of (input_of g argument) q (reverse (lasts ys))))
      ≡ firsts (closure (input_of g argument) m (reversed_targets (input_of g argument) q ys))
  pub last : closure_back (input_of g argument) (state_count pattern) m
      (targets (moves_of (input_of g argument) q (firsts ys)))
      ≡ reverse (lasts (closure (input_of g argument) m
      (reversed_targets (input_of g argument) q ys)))

abbrev pub SwapLaw : Type 0
SwapLaw = (g : Grammar) (pattern : Ops) (argument : Forest) → IsLawful g → Checked pattern
    → (q m : ℕ) (ys : List PartialReading) →
    ((y : PartialReading) → In y ys → EndsAt (input_of g argument) pattern q y)
    → ((z : PartialReading) → In z (targets (moves_of (input_of g argument) q ys))
    → EndsAt (input_of g argument) pattern m z) →
    Swap g pattern argument q m ys
