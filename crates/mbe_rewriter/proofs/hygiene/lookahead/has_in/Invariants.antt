use Rattle.std.proofs.Common.{◌≡◌}
use Rattle.mbe_tt.specs.Trees.Tree.{tree_count}
use Rattle.mbe_tt.specs.Views.View.{trees}
use Rattle.mbe_rewriter.specs.Hygiene.Lookahead.{has_in}
use Rattle.mbe_rewriter.proofs.hygiene.lookahead.has_in.Given as goal

abbrev pub invariant-trees : goal.invariant-trees
invariant-trees g l = has_in l.iter ≡ has_in (trees l.fn.tokens)

abbrev pub decreases-trees : goal.decreases-trees
decreases-trees g l = tree_count l.iter
