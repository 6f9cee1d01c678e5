use Rattle.std.proofs.Common.{◌+◌, ◌*◌, ◌↔◌, drop}
use Rattle.mbe_ops.specs.Equality.{AreSameOps}
use Rattle.mbe_ops.specs.Views.{op_of, ops_of}
use Rattle.mbe_ops.proofs.EqualityLemmas.{op_weight, ops_weight}
use Rattle.mbe_ops.proofs.equality.+equal.Given as goal

abbrev pub invariant-same_ops-loop-op : goal.invariant-same_ops-loop-op
invariant-same_ops-loop-op g l =
    AreSameOps (ops_of l.fn.one) (ops_of l.fn.two) ↔ AreSameOps (ops_of (drop l.op-index l.one)) (ops_of l.rest)

abbrev pub decreases-same_ops : goal.decreases-same_ops
decreases-same_ops g l = 2 * ops_weight (ops_of l.one.now) + 1

abbrev pub decreases-same_op : goal.decreases-same_op
decreases-same_op g l = 2 * op_weight (op_of l.one.now)
