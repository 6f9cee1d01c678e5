use Rattle.mbe_tt.specs.Trees.Tree.{flat_len}
use Rattle.mbe_tt.specs.Views.View.{trees}
use Rattle.mbe_rewriter.specs.WholeFragments.Receivers.{has, is_found}
use Rattle.mbe_rewriter.proofs.Worded.SearchLemmas.{Looks}
use Rattle.mbe_rewriter.proofs.whole_fragments.receivers.has.Given as goal

abbrev pub invariant-trees : goal.invariant-trees
invariant-trees g l = Looks (is_found l.fn.search) (has l.fn.search (trees l.fn.tokens)) l.rest

abbrev pub decreases-trees : goal.decreases-trees
decreases-trees g l = flat_len l.rest
