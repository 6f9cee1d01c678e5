-- What the nodes of a table consume from the front of trees. They form a parsing expression grammar
-- over whole trees: an alternative is tried only if none before it matches, and a repetition
-- consumes as much as it can. In addition a node may fault, and then the whole faults.
use Rattle.std.specs.Prelude.{ℕ, zero, suc, if◌then◌else◌, Option, Some, None, Ok, Err}
use Rattle.std.specs.List.{slice_get}
use Rattle.mbe_tt.specs.Trees.Tree.{Forest, none, leaf, group, flat_len, is_same_kind}
use Rattle.mbe_tt.specs.declared.tt.DelimiterKind.{DelimiterKind}
use Rattle.mbe_grammar.specs.Tables.Terminals.{ParseResult, terminal}
use Rattle.mbe_grammar.specs.declared.tables.node.Node.{Node}
use Rattle.mbe_grammar.specs.declared.tables.node.Node.TheVariants as nodes
use Rattle.mbe_grammar.specs.declared.tables.parse_result.ParseFailure.TheVariants.{NoMatch, Fault}
use Rattle.mbe_grammar.specs.declared.tables.peg_table.RuleTable.{RuleTable}

-- ---- results

-- the next rule, on the trees that are left
infixl 10 ◌>>=◌
abbrev pub ◌>>=◌ : ParseResult → (Forest → ParseResult) → ParseResult
Ok rest >>= next = next rest
Err miss >>= next = Err miss

abbrev pub or_else : ParseResult → ParseResult → ParseResult
or_else (Ok rest) other = Ok rest
or_else (Err NoMatch) other = other
or_else (Err Fault) other = Err Fault

abbrev pub require_match : ParseResult → ParseResult
require_match (Ok rest) = Ok rest
require_match (Err NoMatch) = Err Fault
require_match (Err Fault) = Err Fault

abbrev pub if_match : ParseResult → Forest → ParseResult
if_match (Ok rest) f = Ok f
if_match (Err miss) f = Err miss

abbrev pub unless_match : ParseResult → Forest → ParseResult
unless_match (Ok rest) f = Err NoMatch
unless_match (Err NoMatch) f = Ok f
unless_match (Err Fault) f = Err Fault

-- once more, or the trees that are left if the rule doesn't match
abbrev pub once_more : ParseResult → (Forest → ParseResult) → Forest → ParseResult
once_more (Ok rest) more f = more rest
once_more (Err NoMatch) more f = Ok f
once_more (Err Fault) more f = Err Fault

-- the rule again and again, at most n times
unfoldable pub times : ℕ → (Forest → ParseResult) → Forest → ParseResult
times zero r f = Ok f
times (suc n) r f = once_more (r f) (times n r) f

-- the trees after a group, if its whole content is consumed
abbrev pub require_empty : ParseResult → Forest → ParseResult
require_empty (Ok none) rest = Ok rest
require_empty (Ok (leaf l left)) rest = Err NoMatch
require_empty (Ok (group d inside left)) rest = Err NoMatch
require_empty (Err miss) rest = Err miss

abbrev pub inside_of : DelimiterKind → (Forest → ParseResult) → Forest → ParseResult
inside_of kind content none = Err NoMatch
inside_of kind content (leaf l rest) = Err NoMatch
inside_of kind content (group d inside rest) =
    if is_same_kind d.kind kind then require_empty (content inside) rest else Err NoMatch

-- ---- nodes

-- What a node consumes, if the nodes that it names consume `parts`. An index without a node faults.
abbrev pub meaning : RuleTable → (ℕ → Forest → ParseResult) → Option Node → Forest → ParseResult
meaning table parts None f = Err Fault
meaning table parts (Some (nodes.Terminal t)) f = terminal table t f
meaning table parts (Some (nodes.Inside kind x)) f = inside_of kind (parts x) f
meaning table parts (Some (nodes.Part x)) f = parts x f
meaning table parts (Some (nodes.Then x y)) f = parts x f >>= parts y
meaning table parts (Some (nodes.Or x y)) f = or_else (parts x f) (parts y f)
meaning table parts (Some (nodes.Maybe x)) f = or_else (parts x f) (Ok f)
meaning table parts (Some (nodes.Repeated x)) f = times (flat_len f) (parts x) f
meaning table parts (Some (nodes.Needed x)) f = require_match (parts x f)
meaning table parts (Some (nodes.Ahead x)) f = if_match (parts x f) f
meaning table parts (Some (nodes.NotAhead x)) f = unless_match (parts x f) f

-- What the rule with this index consumes, with calls nested at most this deep. Deeper calls fault.
unfoldable pub takes : RuleTable → ℕ → ℕ → Forest → ParseResult
takes table zero x f = Err Fault
takes table (suc n) x f = meaning table (takes table n) (slice_get table.nodes.now x) f
