-- Where two readings diverge: the first of their steps that differ.
use Rattle.std.specs.Prelude.{ℕ, zero, suc, ◌+◌, ◌≡◌, ◌<◌, Option, Some, None, List, [], ◌∷◌, ◌++◌}
use Rattle.std.specs.Prelude.{map}
use Rattle.mbe_tt.specs.Trees.Tree.{Forest, flat_len}
use Rattle.mbe_tt.specs.Grammars.Grammar.{Grammar}
use Rattle.mbe_semantics.specs.Syntax.Op.{Ops, no_ops}
use Rattle.mbe_semantics.specs.Readings.Item.{Items}
use Rattle.mbe_semantics.specs.Readings.Input.{Input, input_of}
use Rattle.mbe_semantics.specs.Readings.Reading.{PartialReading, partial, EndsAt, Reading}
use Rattle.mbe_semantics.specs.Readings.Steps.{epsilons, Move, move, next}
use Rattle.mbe_semantics.specs.Matching.Lists.{In}
use Rattle.mbe_matcher.specs.Expected.{Expected, ending, expected}

-- the partial reading after a step over tokens, with the offset where it ends
abbrev pub moved : ℕ → Option Move → List (ℕ × PartialReading)
moved q None = []
moved q (Some (move n f y)) = (q + n, y) ∷ []

-- all steps of a partial reading that ends at `q`: the partial readings after them, each with the
-- offset where it ends
abbrev pub steps : Input → ℕ → PartialReading → List (ℕ × PartialReading)
steps i q x = map (λ y. (q, y)) (epsilons i q x) ++ moved q (next i q x)

-- this number of steps leads from the partial reading, which ends at `q`, to the pattern's end at
-- `len`, with these items
abbrev pub Leads : ℕ → Input → ℕ → Items → ℕ → PartialReading → Type 0
Leads zero i len is q x = (q ≡ len) × (x ≡ partial no_ops is [])
Leads (suc n) i len is q x = (s : ℕ × PartialReading) × In s (steps i q x)
    × Leads n i len is s.0 s.1

-- the partial reading, which ends at `q`, is a prefix of this reading
abbrev pub IsPrefixOf : Input → ℕ → Items → ℕ → PartialReading → Type 0
IsPrefixOf i len is q x = (n : ℕ) × Leads n i len is q x

-- Two readings diverge at `p`: they have the same partial reading up to there, and go on by
-- different steps.
pub record DivergeAt (i : Input) (pattern : Ops) (len p : ℕ) : Type 0 where
  pub before : PartialReading
  pub here : EndsAt i pattern p before
  pub one : ℕ × PartialReading
  pub other : ℕ × PartialReading
  pub one_next : In one (steps i p before)
  pub other_next : In other (steps i p before)
  pub differ : one.1 ≡ other.1 → ⊥
  pub reading : Items
  pub another : Items
  pub one_is : IsPrefixOf i len reading one.0 one.1
  pub other_is : IsPrefixOf i len another other.0 other.1

-- ---- what the readings consume next

-- What the reading consumes next after a partial reading that ends at `p`. If the next step
-- consumes tokens, this is what is expected there. After an epsilon step, it is what the reading
-- consumes next. At the pattern's end, it is the argument's end.
pub data ContinuesBy (i : Input) (len : ℕ) (is : Items) (p : ℕ) : PartialReading → Expected
    → Type 0 where
  at_end : (x : PartialReading) → p ≡ len → x ≡ partial no_ops is []
      → ContinuesBy i len is p x ending
  over : (x : PartialReading) (s : ℕ × PartialReading) (w : Expected) → In s (steps i p x) → p < s.0
      → IsPrefixOf i len is s.0 s.1 → expected x ≡ Some w → ContinuesBy i len is p x w
  after : (x : PartialReading) (s : ℕ × PartialReading) (w : Expected) → In s (steps i p x) → s.0
      ≡ p → ContinuesBy i len is p s.1 w
      → ContinuesBy i len is p x w

-- what a reading consumes next that takes this step from the partial reading, which ends at `p`
pub data StepsBy (i : Input) (len : ℕ) (is : Items) (p : ℕ) (x : PartialReading) (s : ℕ
    × PartialReading) (w : Expected)
    : Type 0 where
  at_once : p < s.0 → expected x ≡ Some w → StepsBy i len is p x s w
  later : s.0 ≡ p → ContinuesBy i len is p s.1 w → StepsBy i len is p x s w

-- two readings diverge at `p`, and consume these next
pub record DivergeBy (i : Input) (pattern : Ops) (len p : ℕ) (v w : Expected) : Type 0 where
  pub there : DivergeAt i pattern len p
  pub one_by : StepsBy i len there.reading p there.before there.one v
  pub other_by : StepsBy i len there.another p there.before there.other w

-- the offset where two readings diverge, and what they consume next
pub record Divergence : Type 0 where
  pub offset : ℕ
  pub one : Expected
  pub other : Expected

-- two readings diverge there and consume these next; none diverge before
abbrev pub DivergeFirst : Input → Ops → ℕ → Divergence → Type 0
DivergeFirst i pattern len p =
    DivergeBy i pattern len p.offset p.one p.other
    × ((q : ℕ) → q < p.offset → DivergeAt i pattern len q → ⊥)

-- the first offset where two readings diverge, if there is one
abbrev pub IsDivergenceOf : Input → Ops → ℕ → Option Divergence → Type 0
IsDivergenceOf i pattern len (Some p) = DivergeFirst i pattern len p
IsDivergenceOf i pattern len None = (p : ℕ) → DivergeAt i pattern len p → ⊥

-- the same for the readings of the whole argument
abbrev pub IsDivergence : Grammar → Ops → Forest → Option Divergence → Type 0
IsDivergence g pattern argument p =
    IsDivergenceOf (input_of g argument) pattern (flat_len argument) p

-- two different readings diverge at some offset
abbrev pub ReadingsDiverge : Type 0
ReadingsDiverge = (i : Input) (pattern : Ops) (len : ℕ) (is js : Items) → Reading i pattern len is
    → Reading i pattern len js
    → (is ≡ js → ⊥) → (p : ℕ) × DivergeAt i pattern len p
