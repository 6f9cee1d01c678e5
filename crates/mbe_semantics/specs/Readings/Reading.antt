-- Readings of an input by a pattern, and partial readings.
use Rattle.std.specs.Prelude.{ℕ, suc, ◌+◌, ◌≡◌, Option, Some, None, true, List, [], ◌∷◌}
use Rattle.mbe_semantics.specs.declared.fragment_kinds.RepeatKind.{RepeatKind}
use Rattle.mbe_semantics.specs.declared.fragment_kinds.RepeatKind.TheVariants.{ZeroOrMore}
use Rattle.mbe_semantics.specs.declared.fragment_kinds.RepeatKind.TheVariants.{OneOrMore, ZeroOrOne}
use Rattle.mbe_tt.specs.declared.tt.Delimiter.{Delimiter}
use Rattle.mbe_semantics.specs.Syntax.Op.{Separator, Op, token, group, variable, repetition, Ops}
use Rattle.mbe_semantics.specs.Syntax.Op.{no_ops, op, names_of}
use Rattle.mbe_semantics.specs.Readings.Item.{Item, matched, bound, grouped, skipped, rounds, Items}
use Rattle.mbe_semantics.specs.Readings.Item.{no_items, item, Rounds, no_rounds, round, items_width}
use Rattle.mbe_semantics.specs.Readings.Item.{rounds_width}
use Rattle.mbe_semantics.specs.Readings.Input.{Input}

-- a repetition of this kind may have no rounds
abbrev pub MaySkip : RepeatKind → Type 0
MaySkip ZeroOrMore = Unit {0}
MaySkip OneOrMore = ⊥
MaySkip ZeroOrOne = Unit {0}

-- a repetition of this kind may have another round after one
abbrev pub MayRepeat : RepeatKind → Type 0
MayRepeat ZeroOrMore = Unit {0}
MayRepeat OneOrMore = Unit {0}
MayRepeat ZeroOrOne = ⊥

-- what comes between two rounds is at offset p, over w flat tokens
abbrev pub Between : Input → Option Separator → ℕ → ℕ → Type 0
Between i None p w = w ≡ 0
Between i (Some s) p w = i.separator_at s p ≡ Some w

abbrev mutual
  -- At offset p the op reads the item x. The item ends at offset `p + item_width x`.
  pub Reads : Item → Input → Op → ℕ → Type 0
  Reads (matched n) i (token t) p = i.token_at t p ≡ Some n
  Reads (bound name x) i (variable n kind span) p = (name ≡ n) × (i.fragment_at kind p ≡ Some x)
  Reads (grouped is) i (group d body) p =
      (i.opens_at d.kind p ≡ true) × ReadsFirst is i body (suc p) no_ops
      × (i.closes_at (suc p + items_width is) ≡ true)
  Reads (skipped names) i (repetition body s k) p = MaySkip k × (names ≡ names_of body)
  Reads (rounds rs last) i (repetition body s k) p =
      ReadsRounds rs i body s k p × ReadsFirst last i body (p + rounds_width rs) no_ops
  Reads _ i _ p = ⊥

  -- From offset p, the first ops read these items in order. `rest` are the ops that are left.
  pub ReadsFirst : Items → Input → Ops → ℕ → Ops → Type 0
  ReadsFirst no_items i os p rest = os ≡ rest
  ReadsFirst (item is x) i os p rest =
      (o : Op) × ReadsFirst is i os p (op o rest) × Reads x i o (p + items_width is)

  -- From offset p these are complete rounds, each with the separator after it. So another round may
  -- begin after them.
  pub ReadsRounds : Rounds → Input → Ops → Option Separator → RepeatKind → ℕ → Type 0
  ReadsRounds no_rounds i body s k p = Unit {0}
  ReadsRounds (round rs is w) i body s k p =
      MayRepeat k × ReadsRounds rs i body s k p × ReadsFirst is i body (p + rounds_width rs) no_ops
      × Between i s (p + rounds_width rs + items_width is) w

-- ---- partial readings

-- An open group or repetition. It has its op, the ops after that op, and the items before it. A
-- repetition also has its complete rounds.
pub data Frame : Type 0 where
  inside : Delimiter → Ops → Ops → Items → Frame
  within : Ops → Option Separator → RepeatKind → Ops → Items → Rounds → Frame

-- A partial reading: the ops that are left in the innermost open group or repetition, the items
-- that were read there, and all open groups and repetitions, the innermost first.
pub data PartialReading : Type 0 where
  partial : Ops → Items → List Frame → PartialReading

-- the ops of the innermost open group or repetition
abbrev pub body_of : Ops → List Frame → Ops
body_of pat [] = pat
body_of pat (inside d b rest is ∷ up) = b
body_of pat (within b s k rest is rs ∷ up) = b

-- the offset where the innermost open group or round begins
abbrev pub start_of : List Frame → ℕ
start_of [] = 0
start_of (inside d b rest is ∷ up) = suc (start_of up + items_width is)
start_of (within b s k rest is rs ∷ up) = start_of up + items_width is + rounds_width rs

-- the offset where the partial reading ends
abbrev pub offset : PartialReading → ℕ
offset (partial rest is up) = start_of up + items_width is

-- The pattern reads the open groups and repetitions up to this point.
abbrev pub AreOpen : Input → Ops → List Frame → Type 0
AreOpen i pat [] = Unit {0}
AreOpen i pat (inside d b rest is ∷ up) =
    AreOpen i pat up × ReadsFirst is i (body_of pat up) (start_of up) (op (group d b) rest)
    × (i.opens_at d.kind (start_of up + items_width is) ≡ true)
AreOpen i pat (within b s k rest is rs ∷ up) =
    AreOpen i pat up × ReadsFirst is i (body_of pat up) (start_of up) (op (repetition b s k) rest)
    × ReadsRounds rs i b s k (start_of up + items_width is)

-- y is a partial reading by the pattern
abbrev pub IsPartialReading : Input → Ops → PartialReading → Type 0
IsPartialReading i pat (partial rest is up) =
    AreOpen i pat up × ReadsFirst is i (body_of pat up) (start_of up) rest

-- y is a partial reading that ends at offset q
abbrev pub EndsAt : Input → Ops → ℕ → PartialReading → Type 0
EndsAt i pat q y = IsPartialReading i pat y × (offset y ≡ q)

-- the partial reading that has read nothing
abbrev pub start : Ops → PartialReading
start pat = partial pat no_items []

-- the items are a reading of the whole input, which has `len` flat tokens
abbrev pub Reading : Input → Ops → ℕ → Items → Type 0
Reading i pat len is = ReadsFirst is i pat 0 no_ops × (items_width is ≡ len)
