use Rattle.mbe_tt.specs.Trees.Tree.{flat_len}
use Rattle.mbe_tt.specs.Views.View.{trees}
use Rattle.mbe_rewriter.specs.WholeFragments.Receivers.{parenthesize_receivers_in}
use Rattle.mbe_rewriter.proofs.Worded.ReceiverLemmas.{left_of}
use Rattle.mbe_rewriter.proofs.Worded.WrittenLemmas.{Left}
use Rattle.mbe_rewriter.proofs.whole_fragments.receivers.+write_receivers.Given as goal

abbrev pub decreases-write_receivers : goal.decreases-write_receivers
decreases-write_receivers g l = l.levels

abbrev pub invariant-trees : goal.invariant-trees
invariant-trees g l =
    Left (parenthesize_receivers_in l.fn.levels l.fn.surroundings (trees l.fn.tokens)) l.initial.builder
    (left_of l.fn.levels l.fn.surroundings l.prefix l.rest) l.builder

abbrev pub decreases-trees : goal.decreases-trees
decreases-trees g l = flat_len l.rest
