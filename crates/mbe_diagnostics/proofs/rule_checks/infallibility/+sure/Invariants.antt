use Rattle.mbe_ops.specs.Views.{op_of, ops_of}
use Rattle.mbe_ops.proofs.OpSizes.{op_size, ops_size}
use Rattle.mbe_diagnostics.proofs.rule_checks.infallibility.+sure.Given as goal

abbrev pub decreases-is_infallible_op : goal.decreases-is_infallible_op
decreases-is_infallible_op g l = op_size (op_of l.op.now)

abbrev pub decreases-are_infallible : goal.decreases-are_infallible
decreases-are_infallible g l = ops_size (ops_of l.ops.now)
