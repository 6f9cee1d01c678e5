use Rattle.std.proofs.Common.{◌≡◌}
use Rattle.mbe_tt.specs.Trees.Tree.{tree_count}
use Rattle.mbe_tt.specs.Views.View.{trees}
use Rattle.mbe_cfg.specs.AttributeTarget.{after_next_arrow}
use Rattle.mbe_cfg.proofs.attribute_target.after_next_arrow.Given as goal

abbrev pub invariant-trees : goal.invariant-trees
invariant-trees g l = after_next_arrow (trees l.rest) ≡ after_next_arrow (trees l.fn.tokens)

abbrev pub decreases-trees : goal.decreases-trees
decreases-trees g l = tree_count (trees l.rest)
