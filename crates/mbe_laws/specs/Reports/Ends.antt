-- The first and the last partial reading of each state. A match that fails reports by them.
use Rattle.std.specs.Prelude.{◌≡◌, ℕ, Bool, true, false, Option, Some, None, List, [], ◌∷◌, reverse}
use Rattle.mbe_tt.specs.Trees.Tree.{Forest}
use Rattle.mbe_tt.specs.Grammars.Grammar.{Grammar, IsLawful}
use Rattle.mbe_semantics.specs.Syntax.Op.{Ops}
use Rattle.mbe_semantics.specs.Readings.Input.{Input, input_of}
use Rattle.mbe_semantics.specs.Readings.Reading.{PartialReading, IsPartialReading, EndsAt}
use Rattle.mbe_semantics.specs.Syntax.Nullable.{Checked}
use Rattle.mbe_semantics.specs.Matching.Lists.{In}
use Rattle.mbe_semantics.specs.Matching.Closure.{closure, moves_of, targets}
use Rattle.mbe_semantics.specs.Matching.States.{state_number}
use Rattle.mbe_laws.specs.Bounded.States.{state_of}
use Rattle.mbe_laws.specs.Bounded.ClosureTwoEach.{first_of_each_key}

-- the first of each state
abbrev pub firsts : List PartialReading → List PartialReading
firsts xs = first_of_each_key state_number 1 [] xs

-- the last of each state
abbrev pub lasts : List PartialReading → List PartialReading
lasts xs = reverse (firsts (reverse xs))

abbrev pub first_if : Bool → PartialReading → Option PartialReading → Option PartialReading
first_if true x o = Some x
first_if false x o = o

-- the first that passes the test
abbrev pub first_that : (PartialReading → Bool) → List PartialReading → Option PartialReading
first_that p [] = None
first_that p (x ∷ xs) = first_if (p x) x (first_that p xs)

-- the last that passes the test
abbrev pub last_that : (PartialReading → Bool) → List PartialReading → Option PartialReading
last_that p xs = first_that p (reverse xs)

-- The partial readings that arrive at the next offset. Those that waited arrive in the order in
-- which they began to wait, and the last is visited first.
abbrev pub reversed_targets : Input → ℕ → List PartialReading → List PartialReading
reversed_targets i q ys = reverse (targets (moves_of i q ys))

-- Among partial readings of a pattern, a test that depends on the state alone finds the same first
-- among the first of each state, and the same last among the last of each state.
pub record EndsPreserved : Type 0 where
  pub first : (i : Input) (pattern : Ops) (p : PartialReading → Bool) (xs : List PartialReading)
      → ((x : PartialReading) → In x xs → IsPartialReading i pattern x) →
      ((x y : PartialReading) → state_of x ≡ state_of y → p x ≡ p y) → first_that p (firsts xs)
      ≡ first_that p xs
  pub last : (i : Input) (pattern : Ops) (p : PartialReading → Bool) (xs : List PartialReading)
      → ((x : PartialReading) → In x xs → IsPartialReading i pattern x) →
      ((x y : PartialReading) → state_of x ≡ state_of y → p x ≡ p y) → last_that p (lasts xs)
      ≡ last_that p xs

-- The first of each state at the next offset come from the last here, and the last there from the
-- first here.
pub record EndsAtNext (g : Grammar) (pattern : Ops) (argument : Forest) (q m : ℕ)
    (ys : List PartialReading) : Type 0 where
  pub first : firsts (closure (input_of g argument) m
      (reversed_targets (input_of g argument) q (lasts ys)))
      ≡ firsts (closure (input_of g argument) m (reversed_targets (input_of g argument) q ys))
  pub last : lasts (closure (input_of g argument) m
      (reversed_targets (input_of g argument) q (firsts ys)))
      ≡ lasts (closure (input_of g argument) m (reversed_targets (input_of g argument) q ys))

-- for partial readings that end here, and step to m
abbrev pub EndsLaw : Type 0
EndsLaw = (g : Grammar) (pattern : Ops) (argument : Forest) → IsLawful g → Checked pattern
    → (q m : ℕ) (ys : List PartialReading) →
    ((y : PartialReading) → In y ys → EndsAt (input_of g argument) pattern q y)
    → ((z : PartialReading) → In z (targets (moves_of (input_of g argument) q ys))
    → EndsAt (input_of g argument) pattern m z) →
    EndsAtNext g pattern argument q m ys
