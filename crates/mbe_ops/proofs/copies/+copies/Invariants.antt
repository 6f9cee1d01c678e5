use Rattle.std.proofs.Common.{◌≡◌, ◌+◌, ◌*◌, map, take}
use Rattle.mbe_ops.specs.Views.{op_of, ops_of}
use Rattle.mbe_ops.proofs.EqualityLemmas.{op_weight, ops_weight}
use Rattle.mbe_ops.proofs.copies.+copies.Given as goal

abbrev pub invariant-clone_ops-loop-op : goal.invariant-clone_ops-loop-op
invariant-clone_ops-loop-op g l = map op_of l.copy.items ≡ map op_of (take l.op-index l.ops)

abbrev pub decreases-clone_ops : goal.decreases-clone_ops
decreases-clone_ops g l = 2 * ops_weight (ops_of l.ops.now) + 1

abbrev pub decreases-clone_op : goal.decreases-clone_op
decreases-clone_op g l = 2 * op_weight (op_of l.op.now)
