-- The closure: all partial readings that epsilon steps lead to at an offset from those that arrived
-- there. The rank bounds its depth.
use Rattle.std.specs.Prelude.{ℕ, suc, Option, Some, None, Bool, false, ◌||◌, not, nat_eq, List, []}
use Rattle.std.specs.Prelude.{◌∷◌}
use Rattle.std.specs.List.{flat_map, filter_map}
use Rattle.mbe_semantics.specs.Syntax.Op.{no_ops, op}
use Rattle.mbe_semantics.specs.Readings.Item.{Items}
use Rattle.mbe_semantics.specs.Readings.Input.{Input}
use Rattle.mbe_semantics.specs.Readings.Reading.{PartialReading, partial}
use Rattle.mbe_semantics.specs.Matching.ThreadModel.{rank}
use Rattle.mbe_semantics.specs.Readings.Steps.{epsilons, Move, move, next, tree}

-- the closure of one partial reading
abbrev pub whole : Input → ℕ → PartialReading → List PartialReading
whole i q x = tree (epsilons i q) (suc (rank q x)) x

-- the closure of several partial readings
abbrev pub closure : Input → ℕ → List PartialReading → List PartialReading
closure i q xs = flat_map (whole i q) xs

-- the steps over tokens of partial readings
abbrev pub moves_of : Input → ℕ → List PartialReading → List Move
moves_of i q xs = filter_map (next i q) xs

-- where steps lead
abbrev pub targets : List Move → List PartialReading
targets [] = []
targets (move n f y ∷ ms) = y ∷ targets ms

-- one of the steps is ambiguous with a step over n flat tokens
abbrev pub has_ambiguity_with : ℕ → Bool → List Move → Bool
has_ambiguity_with n f [] = false
has_ambiguity_with n f (move m g z ∷ ms) = (f || g || not (nat_eq n m)) || has_ambiguity_with n f ms

-- two of the steps are a local ambiguity
abbrev pub has_ambiguity : List Move → Bool
has_ambiguity [] = false
has_ambiguity (move n f y ∷ ms) = has_ambiguity_with n f ms

-- the items of a partial reading, if it is at the end of the pattern
abbrev pub completed : PartialReading → Option Items
completed (partial no_ops is []) = Some is
completed (partial no_ops is (f ∷ up)) = None
completed (partial (op o rest) is up) = None

-- the readings that end here
abbrev pub completions : List PartialReading → List Items
completions xs = filter_map completed xs
