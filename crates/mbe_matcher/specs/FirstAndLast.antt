-- The second pass over an argument that doesn't fit, which finds the report. It follows the first
-- and the last partial reading of each state, from offset to offset.
--
-- At an offset, the first partial reading that fails is the first of its state, and so is the first
-- one at the pattern's end. The last one that fails is the last of its state. Both lists are walks
-- that enter each state once, so the pass is linear. The order is reversed at the next offset. So
-- the first ones there come from the last ones here, and the last ones there from the first ones
-- here.
use Rattle.std.specs.Prelude.{ℕ, ◌+◌, ◌≡◌, ◌<◌, ◌≤◌, ◌↔◌, suc, Bool, Some, List, [], ◌∷◌, ◌++◌, map}
use Rattle.std.specs.Prelude.{length, reverse}
use Rattle.std.specs.List.{filter_map}
use Rattle.mbe_tt.specs.Trees.Tree.{Forest}
use Rattle.mbe_tt.specs.Grammars.Grammar.{Grammar, IsLawful}
use Rattle.mbe_semantics.specs.Syntax.Op.{Ops}
use Rattle.mbe_semantics.specs.Syntax.Nullable.{Checked}
use Rattle.mbe_semantics.specs.Readings.Input.{Input, input_of}
use Rattle.mbe_semantics.specs.Readings.Reading.{PartialReading, start}
use Rattle.mbe_semantics.specs.Readings.Steps.{Move, move}
use Rattle.mbe_semantics.specs.Readings.Verdict.{Verdict, IsVerdict, stop_of}
use Rattle.mbe_semantics.specs.Matching.States.{state_count, thread_state}
use Rattle.mbe_semantics.specs.Matching.Closure.{moves_of, targets}
use Rattle.mbe_semantics.specs.Matching.ThreadModel.{ThreadModel, Advance, erase, epsilons_of}
use Rattle.mbe_semantics.specs.Matching.ThreadModel.{next_of, finished_of}
use Rattle.mbe_semantics.specs.Matching.Frontier.{after_of, first_width}
use Rattle.mbe_laws.specs.Bounded.ClosureTwoEach.{walk, turns}
use Rattle.mbe_laws.specs.Reports.Backward.{visit_turns, closure_first, closure_back}
use Rattle.mbe_matcher.specs.Failures.{Notes, no_notes, mismatch, noted_with, AreNotes}

-- the first member alone
abbrev pub only_first : {A : Type 0} → List A → List A
only_first [] = []
only_first (x ∷ xs) = x ∷ []

-- What the models note at an offset: the first of each state, in order, and the last of each state,
-- the last first. The first ones that fail are noted, and after them the last one that fails.
abbrev pub ends_noted : Input → ℕ → List ThreadModel → List ThreadModel → Notes → Notes
ends_noted i q firsts lasts before =
    noted_with (filter_map (mismatch i q) firsts ++ only_first (filter_map (mismatch i q) lasts))
    (filter_map finished_of firsts) before

-- what is noted at an offset: of the closure for the first walk, and of the closure for the second
abbrev pub ends_noted_at : Input → Ops → ℕ → List PartialReading → List PartialReading → Notes
    → Notes
ends_noted_at i pattern q fs bs before =
    ends_noted i q (map erase (closure_first i (state_count pattern) q fs))
    (map erase (closure_back i (state_count pattern) q bs)) before

-- The offsets that the pass reaches, with the partial readings of each of the two walks, and what
-- was noted before.
pub data EndsReach (i : Input) (pattern : Ops) : ℕ → List PartialReading → List PartialReading
    → Notes → Type 0 where
  ends_start : EndsReach i pattern 0 (start pattern ∷ []) (start pattern ∷ []) no_notes
  ends_next : (q m n : ℕ) (f : Bool) (y : PartialReading) (ms : List Move)
      (fs bs : List PartialReading) (before : Notes) →
      EndsReach i pattern q fs bs before → moves_of i q (closure_first i (state_count pattern) q fs)
      ≡ move n f y ∷ ms → m ≡ q + n
      →
      EndsReach i pattern m (targets (moves_of i q (closure_back i (state_count pattern) q bs)))
      (targets (moves_of i q (closure_first i (state_count pattern) q fs)))
      (ends_noted_at i pattern q fs bs before)

-- what the pass notes up to an offset, including it
abbrev pub AreEndNotes : Input → Ops → ℕ → Notes → Type 0
AreEndNotes i pattern q notes =
    (fs : List PartialReading) × (bs : List PartialReading) × (before : Notes)
    × EndsReach i pattern q fs bs before
    × (notes ≡ ends_noted_at i pattern q fs bs before)

-- Up to the offset where the match stops, the pass notes what all partial readings note.
abbrev pub SecondPassLaw : Type 0
SecondPassLaw = (g : Grammar) (pattern : Ops) (argument : Forest) → IsLawful g → Checked pattern
    → (v : Verdict)
    → IsVerdict g pattern argument v →
    (q : ℕ) → q ≤ stop_of argument v → (notes : Notes) →
    AreNotes (input_of g argument) pattern q notes ↔ AreEndNotes (input_of g argument) pattern q
    notes

-- ---- the same for thread models, which the program keeps

-- a thread model is entered, and left after everything that it leads to
pub data Visit : Type 0 where
  enter : ThreadModel → Visit
  leave : ThreadModel → Visit

-- the last epsilon step first, and after all steps the model itself
abbrev pub visits_of : Input → ℕ → Visit → List Visit
visits_of i q (enter o) = map enter (reverse (epsilons_of i q o)) ++ (leave o ∷ [])
visits_of i q (leave o) = []

-- each state is entered once, and left once
abbrev pub key_of : Visit → ℕ
key_of (enter o) = thread_state o + thread_state o
key_of (leave o) = suc (thread_state o + thread_state o)

abbrev pub leaves_of : List Visit → List ThreadModel
leaves_of [] = []
leaves_of (enter o ∷ vs) = leaves_of vs
leaves_of (leave o ∷ vs) = o ∷ leaves_of vs

-- the first of each state, in order
abbrev pub model_first : Input → ℕ → ℕ → List ThreadModel → List ThreadModel
model_first i d q os = walk (epsilons_of i q) thread_state 1 (turns (length os) d) [] os

-- the last of each state, the last first
abbrev pub model_back : Input → ℕ → ℕ → List ThreadModel → List ThreadModel
model_back i d q os =
    leaves_of (walk (visits_of i q) key_of 1 (visit_turns (length os) d) [] (map enter os))

-- their steps over tokens
abbrev pub first_moves : Input → ℕ → ℕ → List ThreadModel → List Advance
first_moves i d q os = filter_map (next_of i q) (model_first i d q os)

abbrev pub back_moves : Input → ℕ → ℕ → List ThreadModel → List Advance
back_moves i d q os = filter_map (next_of i q) (model_back i d q os)

-- what the models note at the offset
abbrev pub model_notes : Input → Ops → ℕ → List ThreadModel → List ThreadModel → Notes → Notes
model_notes i pattern q os ps before = ends_noted i q (model_first i (state_count pattern) q os)
    (model_back i (state_count pattern) q ps) before

-- the offsets that the pass reaches, with the models of each of the two walks
pub data EndsFollow (i : Input) (pattern : Ops) : ℕ → List ThreadModel → List ThreadModel → Notes
    → Type 0 where
  follow_start : EndsFollow i pattern 0 (erase (start pattern) ∷ []) (erase (start pattern)
      ∷ []) no_notes
  follow_next : (q m n : ℕ) (os ps : List ThreadModel) (before : Notes)
      → EndsFollow i pattern q os ps before →
      first_width (first_moves i (state_count pattern) q os) ≡ Some n → m ≡ q + n →
      EndsFollow i pattern m (map after_of (back_moves i (state_count pattern) q ps))
      (map after_of (first_moves i (state_count pattern) q os))
      (model_notes i pattern q os ps before)

abbrev pub AreModelNotes : Input → Ops → ℕ → Notes → Type 0
AreModelNotes i pattern q notes =
    (os : List ThreadModel) × (ps : List ThreadModel) × (before : Notes)
    × EndsFollow i pattern q os ps before
    × (notes ≡ model_notes i pattern q os ps before)

-- Up to the offset where the match stops, the thread models note what all partial readings note.
abbrev pub ModelPassLaw : Type 0
ModelPassLaw = (g : Grammar) (pattern : Ops) (argument : Forest) → IsLawful g → Checked pattern
    → (v : Verdict)
    → IsVerdict g pattern argument v →
    (q : ℕ) → q ≤ stop_of argument v → (notes : Notes) →
    AreNotes (input_of g argument) pattern q notes ↔ AreModelNotes (input_of g argument) pattern q
    notes

-- Before the stop, the first models of the states have steps over tokens, which don't lead past it.
pub record AdvancesToStop (i : Input) (pattern : Ops) (stop q : ℕ) (os : List ThreadModel) : Type 0
  where
    pub width : ℕ
    pub is : first_width (first_moves i (state_count pattern) q os) ≡ Some width
    pub some : 0 < width
    pub within : q + width ≤ stop

abbrev pub ModelPassContinues : Type 0
ModelPassContinues = (g : Grammar) (pattern : Ops) (argument : Forest) → IsLawful g
    → Checked pattern → (v : Verdict)
    → IsVerdict g pattern argument v →
    (q : ℕ) (os ps : List ThreadModel) (before : Notes)
    → EndsFollow (input_of g argument) pattern q os ps before
    → q < stop_of argument v →
    AdvancesToStop (input_of g argument) pattern (stop_of argument v) q os
