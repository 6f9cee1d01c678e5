use Rattle.std.proofs.Common.{◌≡◌}
use Rattle.mbe_tt.specs.Trees.Tree.{flat_len}
use Rattle.mbe_tt.specs.Views.View.{trees}
use Rattle.mbe_rewriter.specs.WholeFragments.FragmentGroups.{peeled}
use Rattle.mbe_rewriter.proofs.whole_fragments.fragment_groups.peeled.Given as goal

abbrev pub invariant-groups : goal.invariant-groups
invariant-groups g l = peeled (trees l.left) ≡ peeled (trees l.fn.tokens)

abbrev pub decreases-groups : goal.decreases-groups
decreases-groups g l = flat_len (trees l.left)
