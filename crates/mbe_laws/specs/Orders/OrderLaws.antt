-- Laws of the bounded run in other orders.
use Rattle.std.specs.Prelude.{◌≡◌, ◌+◌, ◌<◌, ◌≤◌, ℕ, Bool, List, [], ◌∷◌, length}
use Rattle.mbe_tt.specs.Trees.Tree.{Forest, flat_len}
use Rattle.mbe_tt.specs.Grammars.Grammar.{Grammar, IsLawful}
use Rattle.mbe_semantics.specs.Syntax.Op.{Ops}
use Rattle.mbe_semantics.specs.Readings.Item.{Items}
use Rattle.mbe_semantics.specs.Readings.Input.{input_of}
use Rattle.mbe_semantics.specs.Readings.Reading.{PartialReading}
use Rattle.mbe_semantics.specs.Syntax.Nullable.{Checked}
use Rattle.mbe_semantics.specs.Matching.Closure.{closure, completions}
use Rattle.mbe_semantics.specs.Matching.Run.{verdict}
use Rattle.mbe_semantics.specs.Readings.Ambiguity.{Fits}
use Rattle.mbe_semantics.specs.Readings.Verdict.{IsVerdict, one_reading}
use Rattle.mbe_semantics.specs.Matching.States.{state_count}
use Rattle.mbe_laws.specs.Bounded.States.{state_of}
use Rattle.mbe_laws.specs.Bounded.ClosureTwoEach.{first_two_each, turns, closure_two_each}
use Rattle.mbe_laws.specs.Bounded.Laws.{ClosureHasTwoEach}
use Rattle.mbe_laws.specs.Orders.Order.{Order, Orders, ReachesAnyhow, ReachesInOrder}
use Rattle.mbe_laws.specs.Orders.Order.{ReachesUnbounded, verdict_in, ReachesReversed}
use Rattle.mbe_laws.specs.Orders.Order.{verdict_reversed, AtMostTwo, AtMostTwoThat}
use Rattle.mbe_laws.specs.Reports.Ends.{first_that, last_that}

-- the bounded run in any order of the partial readings that arrive
pub record AnyOrder (g : Grammar) (pattern : Ops) (argument : Forest) : Type 0 where
  pub right : (q : ℕ) (xs : List PartialReading) → ReachesAnyhow (input_of g argument) pattern q xs
      → ClosureHasTwoEach g pattern argument q
      (closure_two_each (input_of g argument) (state_count pattern) q xs)
  pub few : (q : ℕ) (xs : List PartialReading) → ReachesAnyhow (input_of g argument) pattern q xs →
      (length xs ≤ state_count pattern + state_count pattern)
      × (turns (length xs) (state_count pattern) ≤ 1
      + (state_count pattern + state_count pattern + state_count pattern + state_count
      pattern + state_count pattern + state_count pattern))
  pub readings : (xs : List PartialReading)
      → ReachesAnyhow (input_of g argument) pattern (flat_len argument) xs →
      (is : Items)
      → completions (closure_two_each (input_of g argument) (state_count pattern)
      (flat_len argument) xs) ≡ is ∷ []
      → Fits g pattern argument is

-- the bounded run in one order
pub record InOrder (order : Order) (g : Grammar) (pattern : Ops) (argument : Forest) : Type 0 where
  pub anyhow : (q : ℕ) (xs : List PartialReading)
      → ReachesInOrder order (input_of g argument) pattern q xs
      → ReachesAnyhow (input_of g argument) pattern q xs
  pub same : verdict_in order g pattern argument ≡ verdict g pattern argument
  pub right : IsVerdict g pattern argument (verdict_in order g pattern argument)
  pub reading_found : verdict_in order g pattern argument ≡ one_reading →
      (xs : List PartialReading) × (is : Items)
      × ReachesInOrder order (input_of g argument) pattern (flat_len argument) xs
      × (completions (closure_two_each (input_of g argument) (state_count pattern)
      (flat_len argument) xs) ≡ is ∷ [])
      × Fits g pattern argument is

abbrev pub AnyOrderLaw : Type 0
AnyOrderLaw = (g : Grammar) (pattern : Ops) (argument : Forest) → IsLawful g → Checked pattern
    → AnyOrder g pattern argument

abbrev pub InOrderLaw : Type 0
InOrderLaw = (order : Order) → Orders order → (g : Grammar) (pattern : Ops) (argument : Forest)
    → IsLawful g
    → Checked pattern → InOrder order g pattern argument

-- ---- with the last first

abbrev pub ReversedLaw : Type 0
ReversedLaw = (g : Grammar) (pattern : Ops) (argument : Forest) → IsLawful g → Checked pattern
    → (q : ℕ) (xs : List PartialReading) →
    ReachesReversed (input_of g argument) pattern q xs
    → ClosureHasTwoEach g pattern argument q
    (closure_two_each (input_of g argument) (state_count pattern) q xs)

abbrev pub ReversedIterations : Type 0
ReversedIterations = (g : Grammar) (pattern : Ops) (argument : Forest) → IsLawful g
    → Checked pattern
    → (q : ℕ) (xs : List PartialReading) →
    ReachesReversed (input_of g argument) pattern q xs →
    (length xs ≤ state_count pattern + state_count pattern)
    × (turns (length xs) (state_count pattern) ≤ 1
    + (state_count pattern + state_count pattern + state_count pattern + state_count
    pattern + state_count pattern + state_count pattern))

abbrev pub ReversedVerdict : Type 0
ReversedVerdict = (g : Grammar) (pattern : Ops) (argument : Forest) → IsLawful g → Checked pattern
    → verdict_reversed g pattern argument ≡ verdict g pattern argument

abbrev pub ReversedRunsAreRight : Type 0
ReversedRunsAreRight = (g : Grammar) (pattern : Ops) (argument : Forest) → IsLawful g
    → Checked pattern
    → IsVerdict g pattern argument (verdict_reversed g pattern argument)

abbrev pub ReversedReadings : Type 0
ReversedReadings = (g : Grammar) (pattern : Ops) (argument : Forest) → IsLawful g → Checked pattern
    → (xs : List PartialReading) →
    ReachesReversed (input_of g argument) pattern (flat_len argument) xs →
    (is : Items)
    → completions (closure_two_each (input_of g argument) (state_count pattern)
    (flat_len argument) xs) ≡ is ∷ []
    → Fits g pattern argument is

abbrev pub ReversedReadingFound : Type 0
ReversedReadingFound = (g : Grammar) (pattern : Ops) (argument : Forest) → IsLawful g
    → Checked pattern
    → verdict_reversed g pattern argument ≡ one_reading →
    (xs : List PartialReading) × (is : Items)
    × ReachesReversed (input_of g argument) pattern (flat_len argument) xs
    × (completions (closure_two_each (input_of g argument) (state_count pattern) (flat_len argument)
    xs) ≡ is ∷ [])
    × Fits g pattern argument is

-- ---- what the bounded run drops

-- Let no three partial readings of one state end at an offset before q. Then the bounded run
-- arrives at q with the same partial readings as the full run in this order, in the same order, and
-- it keeps the first two of each state. So a test of the state alone finds the same first. It finds
-- the same last if no three of one state that pass end at q. The bounded run keeps all exactly if
-- no three of one state end at q.
pub record Unchanged (order : Order) (g : Grammar) (pattern : Ops) (argument : Forest) (q : ℕ)
    (xs : List PartialReading) : Type 0 where
  pub whole : ReachesUnbounded order (input_of g argument) pattern q xs
  pub two : closure_two_each (input_of g argument) (state_count pattern) q xs
      ≡ first_two_each (closure (input_of g argument) q xs)
  pub first : (p : PartialReading → Bool)
      → ((x y : PartialReading) → state_of x ≡ state_of y → p x ≡ p y) →
      first_that p (closure_two_each (input_of g argument) (state_count pattern) q xs)
      ≡ first_that p (closure (input_of g argument) q xs)
  pub all : AtMostTwo (input_of g argument) pattern q
      → closure_two_each (input_of g argument) (state_count pattern) q xs
      ≡ closure (input_of g argument) q xs
  pub last : (p : PartialReading → Bool)
      → ((x y : PartialReading) → state_of x ≡ state_of y → p x ≡ p y)
      → AtMostTwoThat p (input_of g argument) pattern q →
      last_that p (closure_two_each (input_of g argument) (state_count pattern) q xs)
      ≡ last_that p (closure (input_of g argument) q xs)
  pub only : closure_two_each (input_of g argument) (state_count pattern) q xs
      ≡ closure (input_of g argument) q xs
      → AtMostTwo (input_of g argument) pattern q

pub record DropsNothing (order : Order) (g : Grammar) (pattern : Ops) (argument : Forest)
    (q : ℕ) : Type 0 where
  pub bounded : (xs : List PartialReading) → ReachesInOrder order (input_of g argument) pattern q xs
      → Unchanged order g pattern argument q xs
  pub whole : (xs : List PartialReading) → ReachesUnbounded order (input_of g argument) pattern q xs
      → ReachesInOrder order (input_of g argument) pattern q xs

abbrev pub DropsLaw : Type 0
DropsLaw = (order : Order) → Orders order → (g : Grammar) (pattern : Ops) (argument : Forest)
    → IsLawful g
    → Checked pattern → (q : ℕ) →
    ((p : ℕ) → p < q → AtMostTwo (input_of g argument) pattern p)
    → DropsNothing order g pattern argument q
