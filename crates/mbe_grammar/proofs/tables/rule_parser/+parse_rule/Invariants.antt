use Rattle.std.proofs.Common.{◌≡◌, ◌+◌, ◌*◌}
use Rattle.mbe_tt.specs.Trees.Tree.{flat_len}
use Rattle.mbe_tt.specs.Views.View.{trees}
use Rattle.mbe_grammar.specs.Tables.Rule.{times, takes}
use Rattle.mbe_grammar.proofs.tables.rule_parser.+parse_rule.Given as goal

abbrev pub decreases-parse_rule : goal.decreases-parse_rule
decreases-parse_rule g l = 3 * l.depth

abbrev pub decreases-parse_node : goal.decreases-parse_node
decreases-parse_node g l = 3 * l.depth + 2

abbrev pub decreases-inside : goal.decreases-inside
decreases-inside g l = 3 * l.depth + 1

abbrev pub decreases-repeated : goal.decreases-repeated
decreases-repeated g l = 3 * l.depth + 1

abbrev pub invariant-repeated-turns : goal.invariant-repeated-turns
invariant-repeated-turns g l =
    times l.left (takes l.table l.depth l.rule) (trees l.rest)
    ≡ times (flat_len (trees l.fn.tokens)) (takes l.table l.depth l.rule) (trees l.fn.tokens)

abbrev pub decreases-repeated-turns : goal.decreases-repeated-turns
decreases-repeated-turns g l = l.left
