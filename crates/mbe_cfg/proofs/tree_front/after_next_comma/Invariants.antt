use Rattle.std.proofs.Common.{◌≡◌}
use Rattle.mbe_tt.specs.Trees.Tree.{tree_count}
use Rattle.mbe_tt.specs.Views.View.{trees}
use Rattle.mbe_cfg.specs.TreeFront.{after_next_comma}
use Rattle.mbe_cfg.proofs.tree_front.after_next_comma.Given as goal

abbrev pub invariant-trees : goal.invariant-trees
invariant-trees g l = after_next_comma l.iter ≡ after_next_comma (trees l.fn.tokens)

abbrev pub decreases-trees : goal.decreases-trees
decreases-trees g l = tree_count l.iter
