-- Verdicts: how many readings a pattern has of an argument, or where matching stops. Lints and the
-- choice of the closest rule use them.
use Rattle.std.specs.Prelude.{◌≡◌, ◌≤◌, ◌<◌, ℕ, zero, suc, List, [], ◌∷◌}
use Rattle.mbe_tt.specs.Trees.Tree.{Forest, flat_len, tree_count, rest_at}
use Rattle.mbe_tt.specs.Grammars.Grammar.{Grammar}
use Rattle.mbe_semantics.specs.Syntax.Op.{Ops}
use Rattle.mbe_semantics.specs.Readings.Item.{Items}
use Rattle.mbe_semantics.specs.Readings.Input.{Input, input_of}
use Rattle.mbe_semantics.specs.Readings.Reading.{PartialReading, offset, IsPartialReading, EndsAt}
use Rattle.mbe_semantics.specs.Readings.Reading.{Reading}
use Rattle.mbe_semantics.specs.Readings.Ambiguity.{Ambiguous, NoAmbiguity, OnlyReading}

-- How a pattern reads an argument, with the offset of the ambiguity or of the stop. This is the
-- project's own choice.
pub data Verdict : Type 0 where
  one_reading : Verdict
  many_readings : Verdict
  ambiguous : ℕ → Verdict
  stuck : ℕ → Verdict

-- The least offset with a local ambiguity, if there is one. Else it tells whether there is one
-- reading or several. If there is none, it gives the greatest offset where a partial reading ends.
abbrev pub IsVerdictOn : Input → Ops → ℕ → Verdict → Type 0
IsVerdictOn i pat len (ambiguous q) = Ambiguous i pat q × ((p : ℕ) → p < q → Ambiguous i pat p → ⊥)
IsVerdictOn i pat len one_reading = NoAmbiguity i pat × ((is : Items) × OnlyReading i pat len is)
IsVerdictOn i pat len many_readings = NoAmbiguity i pat
    × ((is : Items) × (js : Items) × Reading i pat len is × Reading i pat len js × (is ≡ js → ⊥))
IsVerdictOn i pat len (stuck q) =
    NoAmbiguity i pat × ((is : Items) → Reading i pat len is → ⊥)
    × ((x : PartialReading) × EndsAt i pat q x)
    × ((y : PartialReading) → IsPartialReading i pat y → offset y ≤ q)

-- v is the verdict on a pattern and an argument
abbrev pub IsVerdict : Grammar → Ops → Forest → Verdict → Type 0
IsVerdict g pattern argument v = IsVerdictOn (input_of g argument) pattern (flat_len argument) v

-- where matching stops: at the local ambiguity, where it is stuck, or at the end
abbrev pub stop_of : Forest → Verdict → ℕ
stop_of argument one_reading = flat_len argument
stop_of argument many_readings = flat_len argument
stop_of argument (ambiguous q) = q
stop_of argument (stuck q) = q

-- How many trees of the current group are left where matching stops (rust-analyzer counts what its
-- iterator has left).
abbrev pub unmatched : Forest → Verdict → ℕ
unmatched argument v = tree_count (rest_at argument (stop_of argument v))

-- the verdict by the readings at the end of the argument
abbrev pub verdict_of : {A : Type 0} → ℕ → List A → Verdict
verdict_of len [] = stuck len
verdict_of len (is ∷ []) = one_reading
verdict_of len (is ∷ js ∷ rs) = many_readings

-- the verdict by the number of readings at the end
abbrev pub verdict_at : ℕ → ℕ → Verdict
verdict_at len zero = stuck len
verdict_at len (suc zero) = one_reading
verdict_at len (suc (suc n)) = many_readings
