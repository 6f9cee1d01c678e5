-- The bounded run where the partial readings that arrive at an offset are visited in another order.
use Rattle.std.specs.Prelude.{◌≡◌, ◌+◌, ℕ, zero, suc, Bool, true, false, List, [], ◌∷◌, reverse}
use Rattle.mbe_tt.specs.Trees.Tree.{Forest, flat_len}
use Rattle.mbe_tt.specs.Grammars.Grammar.{Grammar}
use Rattle.mbe_semantics.specs.Syntax.Op.{Ops}
use Rattle.mbe_semantics.specs.Readings.Input.{Input, input_of}
use Rattle.mbe_semantics.specs.Readings.Reading.{PartialReading, EndsAt, start}
use Rattle.mbe_semantics.specs.Readings.Steps.{Move, move}
use Rattle.mbe_semantics.specs.Matching.Lists.{In, Distinct}
use Rattle.mbe_semantics.specs.Matching.Trace.{trace}
use Rattle.mbe_semantics.specs.Matching.Closure.{closure, moves_of, targets, has_ambiguity}
use Rattle.mbe_semantics.specs.Readings.Verdict.{Verdict, stuck}
use Rattle.mbe_semantics.specs.Matching.States.{state_count}
use Rattle.mbe_laws.specs.Bounded.States.{state_of}
use Rattle.mbe_laws.specs.Bounded.ClosureTwoEach.{closure_two_each}
use Rattle.mbe_laws.specs.Bounded.Run.{continue_bounded}

-- the members of ys, each once, in some order
pub record Reordered (xs ys : List PartialReading) : Type 0 where
  pub only : (x : PartialReading) → In x xs → In x ys
  pub every : (y : PartialReading) → In y ys → In y xs
  pub once : Distinct trace xs

-- the offsets that a run reaches, each with the partial readings that arrive there, in any order
pub data ReachesAnyhow (i : Input) (pat : Ops) : ℕ → List PartialReading → Type 0 where
  anyhow_start : ReachesAnyhow i pat 0 (start pat ∷ [])
  anyhow_next : (q m n : ℕ) (f : Bool) (y : PartialReading) (ms : List Move)
      (xs us : List PartialReading) →
      ReachesAnyhow i pat q xs → moves_of i q (closure_two_each i (state_count pat) q xs)
      ≡ move n f y ∷ ms
      → has_ambiguity (move n f y ∷ ms) ≡ false → m ≡ q + n →
      Reordered us (targets (move n f y ∷ ms)) → ReachesAnyhow i pat m us

-- how the list of those that arrive at an offset is put in order
abbrev pub Order : Type 0
Order = ℕ → List PartialReading → List PartialReading

-- nothing is lost, and nothing comes twice
abbrev pub Orders : Order → Type 0
Orders order = (q : ℕ) (ys : List PartialReading) → Distinct trace ys → Reordered (order q ys) ys

-- the offsets that the bounded run reaches in this order
pub data ReachesInOrder (order : Order) (i : Input) (pat : Ops) : ℕ → List PartialReading
    → Type 0 where
  order_start : ReachesInOrder order i pat 0 (start pat ∷ [])
  order_next : (q m n : ℕ) (f : Bool) (y : PartialReading) (ms : List Move)
      (xs : List PartialReading) →
      ReachesInOrder order i pat q xs → moves_of i q (closure_two_each i (state_count pat) q xs)
      ≡ move n f y ∷ ms
      → has_ambiguity (move n f y ∷ ms) ≡ false → m ≡ q + n →
      ReachesInOrder order i pat m (order m (targets (move n f y ∷ ms)))

-- the offsets that the full run reaches in this order
pub data ReachesUnbounded (order : Order) (i : Input) (pat : Ops) : ℕ → List PartialReading
    → Type 0 where
  whole_start : ReachesUnbounded order i pat 0 (start pat ∷ [])
  whole_next : (q m n : ℕ) (f : Bool) (y : PartialReading) (ms : List Move)
      (xs : List PartialReading) →
      ReachesUnbounded order i pat q xs → moves_of i q (closure i q xs) ≡ move n f y ∷ ms
      → has_ambiguity (move n f y ∷ ms) ≡ false
      → m ≡ q + n →
      ReachesUnbounded order i pat m (order m (targets (move n f y ∷ ms)))

-- the first number bounds the offsets that are still to come
unfoldable pub run_in : Order → ℕ → Input → ℕ → ℕ → ℕ → List PartialReading → Verdict
run_in order zero i d len q xs = stuck q
run_in order (suc n) i d len q xs =
    continue_bounded len q (closure_two_each i d q xs)
    (λ k ys. run_in order n i d len k (order k ys))
    (moves_of i q (closure_two_each i d q xs))

-- the result of this run over the whole argument
unfoldable pub verdict_in : Order → Grammar → Ops → Forest → Verdict
verdict_in order g pattern argument =
    run_in order (suc (flat_len argument)) (input_of g argument) (state_count pattern)
    (flat_len argument) 0
    (start pattern ∷ [])

-- Those that waited arrive in the order in which they began to wait, and the last is visited first.
abbrev pub reversed_order : Order
reversed_order q ys = reverse ys

abbrev pub ReachesReversed : Input → Ops → ℕ → List PartialReading → Type 0
ReachesReversed i pat q xs = ReachesInOrder reversed_order i pat q xs

abbrev pub verdict_reversed : Grammar → Ops → Forest → Verdict
verdict_reversed g pattern argument = verdict_in reversed_order g pattern argument

-- no three partial readings of one state end at q
abbrev pub AtMostTwo : Input → Ops → ℕ → Type 0
AtMostTwo i pat q = (x y z : PartialReading) → EndsAt i pat q x → EndsAt i pat q y
    → EndsAt i pat q z → state_of x ≡ state_of y
    → state_of y ≡ state_of z →
    (x ≡ y → ⊥) → (y ≡ z → ⊥) → (x ≡ z → ⊥) → ⊥

-- no three partial readings of one state that pass the test end at q
abbrev pub AtMostTwoThat : (PartialReading → Bool) → Input → Ops → ℕ → Type 0
AtMostTwoThat p i pat q = (x y z : PartialReading) → EndsAt i pat q x → EndsAt i pat q y
    → EndsAt i pat q z → state_of x ≡ state_of y
    → state_of y ≡ state_of z →
    (x ≡ y → ⊥) → (y ≡ z → ⊥) → (x ≡ z → ⊥) → p x ≡ true → ⊥
