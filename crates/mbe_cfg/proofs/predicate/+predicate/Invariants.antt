use Rattle.std.proofs.Common.{◌≡◌, ◌+◌, ◌*◌}
use Rattle.mbe_tt.specs.Trees.Tree.{flat_len}
use Rattle.mbe_tt.specs.Views.View.{trees}
use Rattle.mbe_cfg.specs.Predicates.{items, predicate}
use Rattle.mbe_cfg.proofs.predicate.+predicate.Given as goal

abbrev pub decreases-predicate : goal.decreases-predicate
decreases-predicate g l = 5 * l.depth

abbrev pub decreases-named_predicate : goal.decreases-named_predicate
decreases-named_predicate g l = 5 * l.depth + 4

abbrev pub decreases-operator_predicate : goal.decreases-operator_predicate
decreases-operator_predicate g l = 5 * l.depth + 3

abbrev pub decreases-items : goal.decreases-items
decreases-items g l = 5 * l.depth + 2

abbrev pub decreases-one : goal.decreases-one
decreases-one g l = 5 * l.depth + 1

abbrev pub decreases-item : goal.decreases-item
decreases-item g l = 5 * l.depth + 1

abbrev pub invariant-items-items : goal.invariant-items-items
invariant-items-items g l =
    items (predicate l.settings l.depth l.close) l.every l.close l.left l.predicate_value.holds
    (trees l.predicate_value.rest)
    ≡ items (predicate l.settings l.depth l.close) l.every l.close (flat_len (trees l.fn.tokens)) l.every
    (trees l.fn.tokens)

abbrev pub decreases-items-items : goal.decreases-items-items
decreases-items-items g l = l.left
