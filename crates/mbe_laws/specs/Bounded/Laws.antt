-- Laws of the bounded run, which keeps at most two partial readings of each state.
use Rattle.std.specs.Prelude.{◌≡◌, ◌+◌, ◌<◌, ◌≤◌, ℕ, List, [], ◌∷◌, length}
use Rattle.mbe_tt.specs.Trees.Tree.{Forest, flat_len}
use Rattle.mbe_tt.specs.Grammars.Grammar.{Grammar, IsLawful}
use Rattle.mbe_semantics.specs.Syntax.Op.{Ops}
use Rattle.mbe_semantics.specs.Readings.Item.{Items}
use Rattle.mbe_semantics.specs.Readings.Input.{Input, input_of}
use Rattle.mbe_semantics.specs.Readings.Reading.{PartialReading, IsPartialReading, EndsAt}
use Rattle.mbe_semantics.specs.Syntax.Nullable.{Checked}
use Rattle.mbe_semantics.specs.Matching.Lists.{In, Distinct}
use Rattle.mbe_semantics.specs.Matching.Trace.{trace}
use Rattle.mbe_semantics.specs.Matching.Closure.{closure, completions}
use Rattle.mbe_semantics.specs.Matching.Run.{Reaches, verdict}
use Rattle.mbe_semantics.specs.Readings.Ambiguity.{Fits}
use Rattle.mbe_semantics.specs.Readings.Verdict.{IsVerdict, one_reading}
use Rattle.mbe_semantics.specs.Matching.States.{state_count, state_number}
use Rattle.mbe_laws.specs.Bounded.States.{state_of}
use Rattle.mbe_laws.specs.Bounded.ClosureTwoEach.{first_two_each, turns, closure_two_each}
use Rattle.mbe_laws.specs.Bounded.Run.{ReachesBounded, verdict_bounded}

-- Two partial readings of a pattern have the same number exactly if they have the same state. The
-- number is from 1 to the number of states.
pub record StateNumbersUnique : Type 0 where
  pub one_state : (i j : Input) (pattern : Ops) (x y : PartialReading)
      → IsPartialReading i pattern x → IsPartialReading j pattern y
      → state_number x ≡ state_number y → state_of x ≡ state_of y
  pub one_number : (x y : PartialReading) → state_of x ≡ state_of y → state_number x
      ≡ state_number y
  pub bounded : (i : Input) (pattern : Ops) (x : PartialReading) → IsPartialReading i pattern x
      → (0 < state_number x) × (state_number x ≤ state_count pattern)

-- What the bounded run keeps at an offset: partial readings that end there, each once. It has one
-- of each state that a partial reading has there, and two if two have it. It has at most two for
-- each state of the pattern.
pub record ClosureHasTwoEach (g : Grammar) (pattern : Ops) (argument : Forest) (q : ℕ)
    (ys : List PartialReading) : Type 0 where
  pub partial_readings : (y : PartialReading) → In y ys → EndsAt (input_of g argument) pattern q y
  pub once : Distinct trace ys
  pub one : (x : PartialReading) → EndsAt (input_of g argument) pattern q x → (y : PartialReading)
      × In y ys × (state_of y ≡ state_of x)
  pub two : (x z : PartialReading) → EndsAt (input_of g argument) pattern q x
      → EndsAt (input_of g argument) pattern q z
      → state_of x ≡ state_of z → (x ≡ z → ⊥) →
      (y : PartialReading) × (w : PartialReading) × In y ys × In w ys × (state_of y ≡ state_of x)
      × (state_of w ≡ state_of x)
      × (y ≡ w → ⊥)
  pub few : length ys ≤ state_count pattern + state_count pattern

-- this holds at each offset that the bounded run reaches
abbrev pub BoundedLaw : Type 0
BoundedLaw = (g : Grammar) (pattern : Ops) (argument : Forest) → IsLawful g → Checked pattern
    → (q : ℕ) (xs : List PartialReading) →
    ReachesBounded (input_of g argument) pattern q xs
    → ClosureHasTwoEach g pattern argument q
    (closure_two_each (input_of g argument) (state_count pattern) q xs)

-- The bounded run keeps the first two of each state among all that the full run keeps there, in the
-- same order.
abbrev pub FirstTwo : Type 0
FirstTwo = (g : Grammar) (pattern : Ops) (argument : Forest) → IsLawful g → Checked pattern
    → (q : ℕ) (xs : List PartialReading) →
    ReachesBounded (input_of g argument) pattern q xs →
    (zs : List PartialReading) × Reaches (input_of g argument) pattern q zs
    × (closure_two_each (input_of g argument) (state_count pattern) q xs
    ≡ first_two_each (closure (input_of g argument) q zs))

-- At most two partial readings for each state arrive at an offset. The walk by a stack takes at
-- most six iterations for each state there, and one more.
abbrev pub LinearIterations : Type 0
LinearIterations = (g : Grammar) (pattern : Ops) (argument : Forest) → IsLawful g → Checked pattern
    → (q : ℕ) (xs : List PartialReading) →
    ReachesBounded (input_of g argument) pattern q xs →
    (length xs ≤ state_count pattern + state_count pattern)
    × (turns (length xs) (state_count pattern) ≤ 1
    + (state_count pattern + state_count pattern + state_count pattern + state_count
    pattern + state_count pattern + state_count pattern))

-- the bounded run returns the same as the full run
abbrev pub SameVerdict : Type 0
SameVerdict = (g : Grammar) (pattern : Ops) (argument : Forest) → IsLawful g → Checked pattern
    → verdict_bounded g pattern argument ≡ verdict g pattern argument

-- the bounded run returns the verdict
abbrev pub BoundedRunsAreRight : Type 0
BoundedRunsAreRight = (g : Grammar) (pattern : Ops) (argument : Forest) → IsLawful g
    → Checked pattern
    → IsVerdict g pattern argument (verdict_bounded g pattern argument)

-- If the bounded run reaches the end of the argument and keeps exactly one reading there, it is the
-- only reading, and the pattern fits.
abbrev pub BoundedReadings : Type 0
BoundedReadings = (g : Grammar) (pattern : Ops) (argument : Forest) → IsLawful g → Checked pattern
    → (xs : List PartialReading) →
    ReachesBounded (input_of g argument) pattern (flat_len argument) xs →
    (is : Items)
    → completions (closure_two_each (input_of g argument) (state_count pattern)
    (flat_len argument) xs) ≡ is ∷ []
    → Fits g pattern argument is

-- if the verdict is one reading, the bounded run reaches the end and keeps exactly that reading
-- there
abbrev pub BoundedReadingFound : Type 0
BoundedReadingFound = (g : Grammar) (pattern : Ops) (argument : Forest) → IsLawful g
    → Checked pattern
    → verdict_bounded g pattern argument ≡ one_reading →
    (xs : List PartialReading) × (is : Items)
    × ReachesBounded (input_of g argument) pattern (flat_len argument) xs
    × (completions (closure_two_each (input_of g argument) (state_count pattern) (flat_len argument)
    xs) ≡ is ∷ [])
    × Fits g pattern argument is
