use Rattle.mbe_ops.specs.Views.{op_of, ops_of}
use Rattle.mbe_ops.proofs.OpSizes.{op_size, ops_size}
use Rattle.mbe_diagnostics.proofs.rule_checks.equivalence.+alike.Given as goal

abbrev pub decreases-is_equivalent : goal.decreases-is_equivalent
decreases-is_equivalent g l = op_size (op_of l.one.now)

abbrev pub decreases-are_equivalent : goal.decreases-are_equivalent
decreases-are_equivalent g l = ops_size (ops_of l.one.now)
