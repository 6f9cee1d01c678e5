-- The rules of a grammar that is written as code, and what they consume from the front of trees.
-- They form a parsing expression grammar over whole trees: an alternative is tried only if none
-- before it matches, and a repetition consumes as much as it can. In addition a rule may fault, and
-- then the whole faults.
use Rattle.std.specs.Prelude.{ℕ, zero, suc, ◌+◌, ◌-◌, ◌*◌, ◌==◌, Bool, true, false, not, ◌&&◌, ◌||◌}
use Rattle.std.specs.Prelude.{if◌then◌else◌, List, [], ◌∷◌, Option, Some, None, Ok, Err}
use Rattle.mbe_tt.specs.Trees.Tree.{Forest, none, leaf, group, Tree, Leaf_tree, Group_tree}
use Rattle.mbe_tt.specs.Trees.Tree.{flat_len}
use Rattle.mbe_tt.specs.Trees.Leaf.{Leaf, punct, literal, ident}
use Rattle.mbe_tt.specs.declared.tt.Spacing.{Spacing}
use Rattle.mbe_tt.specs.declared.tt.Spacing.TheVariants.{Alone, Joint}
use Rattle.mbe_grammar.specs.Tables.Rule.{◌>>=◌, or_else, require_match, if_match, unless_match}
use Rattle.mbe_grammar.specs.Tables.Rule.{times}
use Rattle.mbe_grammar.specs.Tables.SingleTrees.{is_char}
use Rattle.mbe_grammar.specs.Tables.Terminals.{ParseResult, or_no_match, after_one, after_operator}
use Rattle.mbe_grammar.specs.declared.tables.parse_result.ParseFailure.TheVariants.{Fault}

-- a rule over nonterminals P
pub data Rule (P : Type 0) : Type 0 where
  one : (Tree → Bool) → Rule P  -- one tree that passes the test
  -- The puncts that are taken together, if they are one of these.
  puncts_of : List (List ℕ) → Rule P
  -- All trees up to the first that passes the test, with that one. Without one it is a fault.
  through : (Tree → Bool) → Rule P
  -- All trees up to the `>` that closes a `<` before them, with it. Without one it is a fault.
  to_closing_angle : Rule P
  part : P → Rule P  -- that part
  ◌then◌ : Rule P → Rule P → Rule P  -- the one, and after it the other
  ◌or◌ : Rule P → Rule P → Rule P  -- the one, or the other where the one doesn't fit
  maybe : Rule P → Rule P  -- the rule, or nothing where it doesn't fit
  repeated : Rule P → Rule P  -- the rule as often as it fits
  needed : Rule P → Rule P  -- the rule; a fault where it doesn't fit
  ahead : Rule P → Rule P  -- nothing, where the rule fits
  not_ahead : Rule P → Rule P  -- nothing, where the rule doesn't fit

infixr 20 ◌then◌
infixr 10 ◌or◌
-- The rule as often as it matches. A rule that consumes a flat token each time matches at most as
-- often as there are flat tokens.
unfoldable pub in_turn : (Forest → ParseResult) → Forest → ParseResult
in_turn r f = times (suc (flat_len f)) r f

abbrev pub or_fault : Option Forest → ParseResult
or_fault None = Err Fault
or_fault (Some rest) = Ok rest

-- ---- single trees and puncts

-- The first tree is a punct with the first of these chars. True if there are no chars.
abbrev pub may_begin : List ℕ → Forest → Bool
may_begin [] f = true
may_begin (c ∷ cs) none = false
may_begin (c ∷ cs) (leaf (ident i) rest) = false
may_begin (c ∷ cs) (leaf (literal l) rest) = false
may_begin (c ∷ cs) (leaf (punct p) rest) = p.char == c
may_begin (c ∷ cs) (group d inside rest) = false

-- the trees after the first that passes the test
abbrev pub past_first : (Tree → Bool) → Forest → Option Forest
past_first p none = None
past_first p (leaf l rest) = if p (Leaf_tree l) then Some rest else past_first p rest
past_first p (group d inside rest) =
    if p (Group_tree d inside) then Some rest else past_first p rest

abbrev pub is_joint : Spacing → Bool
is_joint Joint = true
is_joint Alone = false

-- a joint `-` or `=`: a `>` directly after it closes nothing
abbrev pub begins_arrow : Leaf → Bool
begins_arrow (punct p) = is_joint p.spacing && (p.char == 45 || p.char == 61)
begins_arrow (literal x) = false
begins_arrow (ident i) = false

-- The trees after the `>` that closes a `<` before these trees. `more` further `<` are open.
-- `arrow` says that the previous tree begins an arrow.
abbrev pub after_angle : ℕ → Bool → Forest → Option Forest
after_angle more arrow none = None
after_angle more arrow (group d inside rest) = after_angle more false rest
after_angle more arrow (leaf l rest) =
    if is_char 60 l then after_angle (more + 1) (begins_arrow l) rest
    else if is_char 62 l && not arrow then
    (if more == 0 then Some rest else after_angle (more - 1) (begins_arrow l) rest)
    else after_angle more (begins_arrow l) rest

-- ---- rules and parts

-- what a rule consumes, by what its nonterminals consume
abbrev pub meaning : {P : Type 0} → (P → Forest → ParseResult) → Rule P → Forest → ParseResult
meaning parts (one p) f = or_no_match (after_one p f)
meaning parts (puncts_of texts) f = or_no_match (after_operator texts f)
meaning parts (through p) f = or_fault (past_first p f)
meaning parts to_closing_angle f = or_fault (after_angle 0 false f)
meaning parts (part x) f = parts x f
meaning parts (r then s) f = meaning parts r f >>= meaning parts s
meaning parts (r or s) f = or_else (meaning parts r f) (meaning parts s f)
meaning parts (maybe r) f = or_else (meaning parts r f) (Ok f)
meaning parts (repeated r) f = in_turn (meaning parts r) f
meaning parts (needed r) f = require_match (meaning parts r f)
meaning parts (ahead r) f = if_match (meaning parts r f) f
meaning parts (not_ahead r) f = unless_match (meaning parts r f) f

-- What a nonterminal consumes by its rule, with calls nested at most this deep. Deeper calls fault.
unfoldable pub taken_within : {P : Type 0} → (P → Rule P) → ℕ → P → Forest → ParseResult
taken_within rules zero x f = Err Fault
taken_within rules (suc n) x f = meaning (taken_within rules n) (rules x) f

-- What a nonterminal consumes by its rule. Twenty nested calls for each flat token are enough if no
-- nonterminal nests more before it consumes a token.
unfoldable pub taken : {P : Type 0} → (P → Rule P) → P → Forest → ParseResult
taken rules x f = taken_within rules (suc (20 * flat_len f + 20)) x f
