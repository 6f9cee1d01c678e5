use Rattle.mbe_tt.specs.Trees.Tree.{flat_len}
use Rattle.mbe_tt.specs.Views.View.{trees}
use Rattle.mbe_rewriter.proofs.PartingLemmas.{Left}
use Rattle.mbe_rewriter.proofs.punct_spacing.+write_spaced.Given as goal

abbrev pub decreases-write_spaced : goal.decreases-write_spaced
decreases-write_spaced g l = l.levels

abbrev pub invariant-trees : goal.invariant-trees
invariant-trees g l = Left l.fn.levels (trees l.fn.tokens) l.initial.builder l.rest l.builder

abbrev pub decreases-trees : goal.decreases-trees
decreases-trees g l = flat_len l.rest
