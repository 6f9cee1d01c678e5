use Rattle.mbe_ops.specs.Views.{op_of, ops_of}
use Rattle.mbe_ops.proofs.OpSizes.{op_size, ops_size}
use Rattle.mbe_diagnostics.proofs.rule_checks.infallibility.+rounds.Given as goal

abbrev pub decreases-has_repeating_variable_op : goal.decreases-has_repeating_variable_op
decreases-has_repeating_variable_op g l = op_size (op_of l.op.now)

abbrev pub decreases-has_repeating_variable : goal.decreases-has_repeating_variable
decreases-has_repeating_variable g l = ops_size (ops_of l.ops.now)
