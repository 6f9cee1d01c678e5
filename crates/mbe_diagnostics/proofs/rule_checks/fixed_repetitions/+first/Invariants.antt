use Rattle.mbe_ops.specs.Views.{op_of, ops_of}
use Rattle.mbe_ops.proofs.OpSizes.{op_size, ops_size}
use Rattle.mbe_diagnostics.proofs.rule_checks.fixed_repetitions.+first.Given as goal

abbrev pub decreases-first_span_op : goal.decreases-first_span_op
decreases-first_span_op g l = op_size (op_of l.op.now)

abbrev pub decreases-first_span : goal.decreases-first_span
decreases-first_span g l = ops_size (ops_of l.ops.now)
