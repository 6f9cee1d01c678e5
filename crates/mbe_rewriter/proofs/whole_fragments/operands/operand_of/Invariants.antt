use Rattle.std.proofs.Common.{◌≡◌}
use Rattle.mbe_tt.specs.Trees.Tree.{flat_len}
use Rattle.mbe_tt.specs.Views.View.{trees}
use Rattle.mbe_rewriter.specs.WholeFragments.Operands.{operand_from, operand_of}
use Rattle.mbe_rewriter.proofs.whole_fragments.operands.operand_of.Given as goal

abbrev pub invariant-trees : goal.invariant-trees
invariant-trees g l = operand_from l.so_far l.rest ≡ operand_of (trees l.fn.tokens)

abbrev pub decreases-trees : goal.decreases-trees
decreases-trees g l = flat_len l.rest
