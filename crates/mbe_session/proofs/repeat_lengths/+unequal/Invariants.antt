use Rattle.std.proofs.Common.{◌≡◌, ◌+◌, ◌*◌, ◌≤◌, length}
use Rattle.mbe_ops.specs.Views.{op_of, ops_of}
use Rattle.mbe_ops.proofs.EqualityLemmas.{op_weight, ops_weight}
use Rattle.mbe_session.proofs.repeat_lengths.+unequal.Given as goal

abbrev pub invariant-unequal_in-ops : goal.invariant-unequal_in-ops
invariant-unequal_in-ops g l = record {
  lighter : ops_weight (ops_of l.rest) ≤ ops_weight (ops_of l.ops);
}

abbrev pub decreases-unequal_in-ops : goal.decreases-unequal_in-ops
decreases-unequal_in-ops g l = length l.rest

abbrev pub decreases-unequal_in : goal.decreases-unequal_in
decreases-unequal_in g l = 4 * ops_weight (ops_of l.ops.now) + 1

abbrev pub decreases-unequal_in_op : goal.decreases-unequal_in_op
decreases-unequal_in_op g l = 4 * op_weight (op_of l.op.now)

abbrev pub decreases-unequal_in_repetition : goal.decreases-unequal_in_repetition
decreases-unequal_in_repetition g l = 4 * ops_weight (ops_of l.body.now) + 3

abbrev pub decreases-unequal_in_round : goal.decreases-unequal_in_round
decreases-unequal_in_round g l = 4 * ops_weight (ops_of l.body.now) + 2
