-- The bounded run: it keeps at most two partial readings of each state at each offset.
use Rattle.std.specs.Prelude.{ℕ, zero, suc, ◌+◌, ◌==◌, ◌≡◌, Bool, false, if◌then◌else◌, List, []}
use Rattle.std.specs.Prelude.{◌∷◌}
use Rattle.mbe_tt.specs.Trees.Tree.{Forest, flat_len}
use Rattle.mbe_tt.specs.Grammars.Grammar.{Grammar}
use Rattle.mbe_semantics.specs.Syntax.Op.{Ops}
use Rattle.mbe_semantics.specs.Readings.Input.{Input, input_of}
use Rattle.mbe_semantics.specs.Readings.Reading.{PartialReading, start}
use Rattle.mbe_semantics.specs.Readings.Steps.{Move, move}
use Rattle.mbe_semantics.specs.Readings.Verdict.{Verdict, ambiguous, stuck, verdict_of}
use Rattle.mbe_semantics.specs.Matching.Closure.{moves_of, targets, completions, has_ambiguity}
use Rattle.mbe_semantics.specs.Matching.States.{state_count}
use Rattle.mbe_laws.specs.Bounded.ClosureTwoEach.{closure_two_each}

-- the offsets that the bounded run reaches, each with the partial readings that arrive there
pub data ReachesBounded (i : Input) (pat : Ops) : ℕ → List PartialReading → Type 0 where
  at_start : ReachesBounded i pat 0 (start pat ∷ [])
  at_next : (q m n : ℕ) (f : Bool) (y : PartialReading) (ms : List Move) (xs : List PartialReading)
      →
      ReachesBounded i pat q xs → moves_of i q (closure_two_each i (state_count pat) q xs)
      ≡ move n f y ∷ ms
      → has_ambiguity (move n f y ∷ ms) ≡ false → m ≡ q + n →
      ReachesBounded i pat m (targets (move n f y ∷ ms))

-- the run stops where no partial reading can step or two are ambiguous, and else it continues at
-- the next offset
abbrev pub continue_bounded : ℕ → ℕ → List PartialReading → (ℕ → List PartialReading → Verdict)
    → List Move → Verdict
continue_bounded len q ys more [] = if q == len then verdict_of len (completions ys) else stuck q
continue_bounded len q ys more (move m f y ∷ ms) =
    if has_ambiguity (move m f y ∷ ms) then ambiguous q else more (q + m) (targets (move m f y
    ∷ ms))

-- the first number bounds the offsets that are still to come
unfoldable pub run_bounded : ℕ → Input → ℕ → ℕ → ℕ → List PartialReading → Verdict
run_bounded zero i d len q xs = stuck q
run_bounded (suc n) i d len q xs =
    continue_bounded len q (closure_two_each i d q xs) (λ k ys. run_bounded n i d len k ys)
    (moves_of i q (closure_two_each i d q xs))

-- the result of the bounded run over the whole argument
unfoldable pub verdict_bounded : Grammar → Ops → Forest → Verdict
verdict_bounded g pattern argument =
    run_bounded (suc (flat_len argument)) (input_of g argument) (state_count pattern)
    (flat_len argument) 0 (start pattern ∷ [])
