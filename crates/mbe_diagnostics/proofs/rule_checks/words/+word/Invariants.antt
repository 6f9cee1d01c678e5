use Rattle.mbe_ops.specs.Views.{op_of, ops_of}
use Rattle.mbe_ops.proofs.OpSizes.{op_size, ops_size}
use Rattle.mbe_diagnostics.proofs.rule_checks.words.+word.Given as goal

abbrev pub decreases-has_word_op : goal.decreases-has_word_op
decreases-has_word_op g l = op_size (op_of l.op.now)

abbrev pub decreases-has_word_in : goal.decreases-has_word_in
decreases-has_word_in g l = ops_size (ops_of l.ops.now)
