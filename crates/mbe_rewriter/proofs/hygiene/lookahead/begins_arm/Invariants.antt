use Rattle.std.proofs.Common.{◌≡◌}
use Rattle.mbe_tt.specs.Trees.Tree.{tree_count}
use Rattle.mbe_tt.specs.Views.View.{trees}
use Rattle.mbe_rewriter.specs.Hygiene.Lookahead.{begins_arm}
use Rattle.mbe_rewriter.proofs.hygiene.lookahead.begins_arm.Given as goal

abbrev pub invariant-trees : goal.invariant-trees
invariant-trees g l = begins_arm l.iter ≡ begins_arm (trees l.fn.tokens)

abbrev pub decreases-trees : goal.decreases-trees
decreases-trees g l = tree_count l.iter
