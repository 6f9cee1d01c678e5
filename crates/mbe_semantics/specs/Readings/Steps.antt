-- The steps of a partial reading at the offset where it ends: epsilon steps, which consume no
-- token, and the step over tokens.
use Rattle.std.specs.Prelude.{ℕ, zero, suc, Option, Some, None, Bool, true, false, List, [], ◌∷◌}
use Rattle.std.specs.Prelude.{◌++◌}
use Rattle.std.specs.List.{flat_map}
use Rattle.mbe_semantics.specs.declared.fragment_kinds.RepeatKind.{RepeatKind}
use Rattle.mbe_semantics.specs.declared.fragment_kinds.RepeatKind.TheVariants.{ZeroOrMore}
use Rattle.mbe_semantics.specs.declared.fragment_kinds.RepeatKind.TheVariants.{OneOrMore, ZeroOrOne}
use Rattle.mbe_semantics.specs.Syntax.Op.{Name, Separator, token, group, variable, repetition}
use Rattle.mbe_semantics.specs.Syntax.Op.{expression, Ops, no_ops, op, names_of}
use Rattle.mbe_semantics.specs.Readings.Item.{Fragment, Item, matched, bound, grouped, skipped}
use Rattle.mbe_semantics.specs.Readings.Item.{rounds, Items, no_items, item, Rounds, no_rounds}
use Rattle.mbe_semantics.specs.Readings.Item.{round, item_width}
use Rattle.mbe_semantics.specs.Readings.Input.{Input}
use Rattle.mbe_semantics.specs.Readings.Reading.{Frame, inside, within, PartialReading, partial}

-- the item of a token
abbrev pub matched_item : Option ℕ → Option Item
matched_item None = None
matched_item (Some n) = Some (matched n)

-- the item of a variable
abbrev pub bound_item : Name → Option Fragment → Option Item
bound_item name None = None
bound_item name (Some x) = Some (bound name x)

-- ---- epsilon steps

-- `*` and `?` may have no rounds
abbrev pub skip_of : {A : Type 0} → RepeatKind → A → List A
skip_of ZeroOrMore x = x ∷ []
skip_of OneOrMore x = []
skip_of ZeroOrOne x = x ∷ []

-- Without a separator, another round may begin at once, except for `?`.
abbrev pub another_round : {A : Type 0} → Option Separator → RepeatKind → A → List A
another_round (Some s) k x = []
another_round None ZeroOrMore x = x ∷ []
another_round None OneOrMore x = x ∷ []
another_round None ZeroOrOne x = []

-- no flat token is consumed
abbrev pub if_none : {A : Type 0} → ℕ → A → List A
if_none zero x = x ∷ []
if_none (suc n) x = []

-- an item that consumed no token
abbrev pub empty_item : Option Item → Ops → Items → List Frame → List PartialReading
empty_item None rest is up = []
empty_item (Some x) rest is up = if_none (item_width x) (partial rest (item is x) up)

-- the epsilon steps, in the order in which they are followed
abbrev pub epsilons : Input → ℕ → PartialReading → List PartialReading
epsilons i q (partial no_ops is []) = []
epsilons i q (partial no_ops is (inside d b rest js ∷ up)) = []
epsilons i q (partial no_ops is (within b s k rest js rs ∷ up)) =
    another_round s k (partial b no_items (within b s k rest js (round rs is 0) ∷ up))
    ++ (partial rest (item js (rounds rs is)) up ∷ [])
epsilons i q (partial (op (token t) rest) is up) =
    empty_item (matched_item (i.token_at t q)) rest is up
epsilons i q (partial (op (variable name kind span) rest) is up) =
    empty_item (bound_item name (i.fragment_at kind q)) rest is up
epsilons i q (partial (op (group d b) rest) is up) = []
epsilons i q (partial (op (repetition b s k) rest) is up) =
    partial b no_items (within b s k rest is no_rounds ∷ up)
    ∷ skip_of k (partial rest (item is (skipped (names_of b))) up)
epsilons i q (partial (op (expression e) rest) is up) = []

-- ---- the step over tokens

-- A step over this many flat tokens to the next partial reading. The flag says whether they are a
-- fragment.
pub data Move : Type 0 where
  move : ℕ → Bool → PartialReading → Move

-- at least one flat token is consumed
abbrev pub if_some : Bool → ℕ → PartialReading → Option Move
if_some f zero x = None
if_some f (suc n) x = Some (move (suc n) f x)

-- an item that consumed at least one token
abbrev pub over_of : Bool → Option Item → Ops → Items → List Frame → Option Move
over_of f None rest is up = None
over_of f (Some x) rest is up = if_some f (item_width x) (partial rest (item is x) up)

-- the step, if the test is true
abbrev pub when : Bool → Move → Option Move
when true m = Some m
when false m = None

-- the step over the separator into another round, except for `?`
abbrev pub round_move : RepeatKind → Option ℕ → Ops → Option Separator → Ops → Items → Rounds
    → List Frame → Items
    → Option Move
round_move k None b s rest js rs up is = None
round_move ZeroOrMore (Some w) b s rest js rs up is =
    Some (move w false (partial b no_items (within b s ZeroOrMore rest js (round rs is w) ∷ up)))
round_move OneOrMore (Some w) b s rest js rs up is =
    Some (move w false (partial b no_items (within b s OneOrMore rest js (round rs is w) ∷ up)))
round_move ZeroOrOne (Some w) b s rest js rs up is = None

-- a repetition without a separator has no such step
abbrev pub separator_move : Input → ℕ → Option Separator → RepeatKind → Ops → Ops → Items → Rounds
    → List Frame → Items
    → Option Move
separator_move i q None k b rest js rs up is = None
separator_move i q (Some s) k b rest js rs up is =
    round_move k (i.separator_at s q) b (Some s) rest js rs up is

-- The step over tokens of a partial reading at q, if there is one. The tokens are a closing, where
-- the body of a group is read; a separator, where a round is read and another may follow; a token
-- of the pattern; a fragment, if it isn't empty; or an opening.
abbrev pub next : Input → ℕ → PartialReading → Option Move
next i q (partial no_ops is []) = None
next i q (partial no_ops is (inside d b rest js ∷ up)) =
    when (i.closes_at q) (move 1 false (partial rest (item js (grouped is)) up))
next i q (partial no_ops is (within b s k rest js rs ∷ up)) =
    separator_move i q s k b rest js rs up is
next i q (partial (op (token t) rest) is up) =
    over_of false (matched_item (i.token_at t q)) rest is up
next i q (partial (op (variable name kind span) rest) is up) =
    over_of true (bound_item name (i.fragment_at kind q)) rest is up
next i q (partial (op (group d b) rest) is up) =
    when (i.opens_at d.kind q) (move 1 false (partial b no_items (inside d b rest is ∷ up)))
next i q (partial (op (repetition b s k) rest) is up) = None
next i q (partial (op (expression e) rest) is up) = None

-- All that epsilon steps lead to, depth first. The number bounds the depth.
unfoldable pub tree : {A : Type 0} → (A → List A) → ℕ → A → List A
tree kids zero x = []
tree kids (suc n) x = x ∷ flat_map (tree kids n) (kids x)
