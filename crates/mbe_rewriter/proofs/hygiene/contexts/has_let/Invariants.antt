use Rattle.std.proofs.Common.{◌≡◌}
use Rattle.mbe_tt.specs.Trees.Tree.{tree_count}
use Rattle.mbe_tt.specs.Views.View.{trees}
use Rattle.mbe_rewriter.specs.Hygiene.Contexts as spec
use Rattle.mbe_rewriter.proofs.hygiene.contexts.has_let.Given as goal

abbrev pub invariant-trees : goal.invariant-trees
invariant-trees g l = spec.has_let l.iter ≡ spec.has_let (trees l.fn.tokens)

abbrev pub decreases-trees : goal.decreases-trees
decreases-trees g l = tree_count l.iter
