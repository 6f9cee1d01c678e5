-- A run over the offsets of an input. At each offset the run takes the closure of the partial
-- readings that arrive there. Then all that can step do so over the same tokens.
use Rattle.std.specs.Prelude.{ℕ, zero, suc, ◌+◌, ◌==◌, ◌≡◌, Bool, false, if◌then◌else◌, List, []}
use Rattle.std.specs.Prelude.{◌∷◌}
use Rattle.mbe_tt.specs.Trees.Tree.{Forest, flat_len}
use Rattle.mbe_tt.specs.Grammars.Grammar.{Grammar}
use Rattle.mbe_semantics.specs.Syntax.Op.{Ops}
use Rattle.mbe_semantics.specs.Readings.Input.{Input, input_of}
use Rattle.mbe_semantics.specs.Readings.Reading.{PartialReading, start}
use Rattle.mbe_semantics.specs.Readings.Steps.{Move, move}
use Rattle.mbe_semantics.specs.Matching.Closure.{closure, moves_of, targets, completions}
use Rattle.mbe_semantics.specs.Matching.Closure.{has_ambiguity}
use Rattle.mbe_semantics.specs.Readings.Verdict.{Verdict, ambiguous, stuck, verdict_of}

-- the offsets that a run reaches, each with the partial readings that arrive there
pub data Reaches (i : Input) (pat : Ops) : ℕ → List PartialReading → Type 0 where
  at_start : Reaches i pat 0 (start pat ∷ [])
  at_next : (q m n : ℕ) (f : Bool) (y : PartialReading) (ms : List Move) (xs : List PartialReading)
      →
      Reaches i pat q xs → moves_of i q (closure i q xs) ≡ move n f y ∷ ms
      → has_ambiguity (move n f y ∷ ms) ≡ false → m ≡ q + n →
      Reaches i pat m (targets (move n f y ∷ ms))

-- the run stops where no partial reading can step or two are ambiguous, and else it continues at
-- the next offset
abbrev pub continue_run : Input → ℕ → ℕ → List PartialReading → (ℕ → List PartialReading → Verdict)
    → List Move → Verdict
continue_run i len q xs more [] =
    if q == len then verdict_of len (completions (closure i q xs)) else stuck q
continue_run i len q xs more (move m f y ∷ ms) =
    if has_ambiguity (move m f y ∷ ms) then ambiguous q else more (q + m) (targets (move m f y
    ∷ ms))

-- the first number bounds the offsets that are still to come
unfoldable pub run : ℕ → Input → ℕ → ℕ → List PartialReading → Verdict
run zero i len q xs = stuck q
run (suc n) i len q xs =
    continue_run i len q xs (λ k ys. run n i len k ys) (moves_of i q (closure i q xs))

-- the result of the run over the whole argument
unfoldable pub verdict : Grammar → Ops → Forest → Verdict
verdict g pattern argument =
    run (suc (flat_len argument)) (input_of g argument) (flat_len argument) 0
    (start pattern ∷ [])
