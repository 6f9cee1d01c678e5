-- What terminals consume from the front of trees: the trees that are left, or why the terminal
-- doesn't match.
use Rattle.std.specs.Prelude.{ℕ, Bool, false, if◌then◌else◌, List, [], ◌∷◌, map, length, Option}
use Rattle.std.specs.Prelude.{Some, None, option_and_then, Result, Ok, Err}
use Rattle.std.specs.List.{list_any}
use Rattle.std.specs.Str.{bytes_eq}
use Rattle.mbe_tt.specs.Trees.Tree.{Forest, none, leaf, group, Tree, Leaf_tree, Group_tree, first}
use Rattle.mbe_tt.specs.Trees.Tree.{first_span, skip}
use Rattle.mbe_tt.specs.Trees.Glue.{glue, glued, chars_of}
use Rattle.mbe_tt.specs.declared.span.Edition.{Edition}
use Rattle.mbe_grammar.specs.Tables.Editions.{is_since, edition_of}
use Rattle.mbe_grammar.specs.Tables.SingleTrees.{is_one_of, is_identifier, is_name, is_literal}
use Rattle.mbe_grammar.specs.Tables.SingleTrees.{is_pointed, is_any, is_punct, is_group}
use Rattle.mbe_grammar.specs.Tables.SingleTrees.{is_fragment_of}
use Rattle.mbe_grammar.specs.declared.tables.node.Terminal.{Terminal}
use Rattle.mbe_grammar.specs.declared.tables.node.Terminal.TheVariants as terminals
use Rattle.mbe_grammar.specs.declared.tables.parse_result.ParseFailure.{ParseFailure}
use Rattle.mbe_grammar.specs.declared.tables.parse_result.ParseFailure.TheVariants.{NoMatch}
use Rattle.mbe_grammar.specs.declared.tables.peg_table.RuleTable.{RuleTable}

abbrev pub ParseResult : Type 0
ParseResult = Result Forest ParseFailure

abbrev pub or_no_match : Option Forest → ParseResult
or_no_match None = Err NoMatch
or_no_match (Some rest) = Ok rest

-- the trees after the first tree, if it passes the test
abbrev pub after_one : (Tree → Bool) → Forest → Option Forest
after_one p none = None
after_one p (leaf l rest) = if p (Leaf_tree l) then Some rest else None
after_one p (group d inside rest) = if p (Group_tree d inside) then Some rest else None

-- the trees after an operator, if one of these is its text
abbrev pub after_operator : List (List ℕ) → Forest → Option Forest
after_operator texts f =
    option_and_then (λ ps. if list_any (bytes_eq (chars_of ps)) texts then Some
    (skip (length (glue f)) f) else None)
    (glued f)

-- matches at the end, and consumes nothing
abbrev pub at_end : Forest → ParseResult
at_end none = Ok none
at_end (leaf l rest) = Err NoMatch
at_end (group d inside rest) = Err NoMatch

-- the first tree is from that edition or a later one
abbrev pub begins_since : RuleTable → Edition → Option Tree → Bool
begins_since table edition None = false
begins_since table edition (Some t) = is_since (edition_of table (first_span t).ctx) edition

-- matches if it is, and consumes nothing
abbrev pub if_since : RuleTable → Edition → Forest → ParseResult
if_since table edition f = if begins_since table edition (first f) then Ok f else Err NoMatch

abbrev pub terminal : RuleTable → Terminal → Forest → ParseResult
terminal table (terminals.Word text) f = or_no_match (after_one (is_one_of (text.now ∷ [])) f)
terminal table (terminals.Words texts) f =
    or_no_match (after_one (is_one_of (map (λ t. t.now) texts.now)) f)
terminal table (terminals.Operator text) f = or_no_match (after_operator (text.now ∷ []) f)
terminal table (terminals.Operators texts) f =
    or_no_match (after_operator (map (λ t. t.now) texts.now) f)
terminal table (terminals.Sign char) f = or_no_match (after_one (is_punct char) f)
terminal table (terminals.Group kinds) f = or_no_match (after_one (is_group kinds.now) f)
terminal table (terminals.Fragment groups) f =
    or_no_match (after_one (is_fragment_of groups.now) f)
terminal table terminals.Name f = or_no_match (after_one (is_name table) f)
terminal table terminals.Identifier f = or_no_match (after_one is_identifier f)
terminal table terminals.Literal f = or_no_match (after_one is_literal f)
terminal table terminals.Pointed f = or_no_match (after_one is_pointed f)
terminal table terminals.Any f = or_no_match (after_one is_any f)
terminal table terminals.End f = at_end f
terminal table (terminals.Since edition) f = if_since table edition f
