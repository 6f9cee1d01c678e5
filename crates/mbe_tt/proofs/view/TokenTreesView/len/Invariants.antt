use Rattle.std.proofs.Common.{◌≡◌, ◌+◌}
use Rattle.mbe_tt.specs.Trees.Tree.{tree_count}
use Rattle.mbe_tt.specs.Views.View.{trees}
use Rattle.mbe_tt.proofs.view.TokenTreesView.len.Given as goal

abbrev pub invariant-loop-tree : goal.invariant-loop-tree
invariant-loop-tree g l = l.n + tree_count l.iter ≡ tree_count (trees l.self)

abbrev pub decreases-loop-tree : goal.decreases-loop-tree
decreases-loop-tree g l = tree_count l.iter
