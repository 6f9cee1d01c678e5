use Rattle.std.proofs.Common.{◌≡◌, ◌+◌, ◌*◌, ◌≤◌, length}
use Rattle.mbe_ops.specs.Views.{op_of, ops_of}
use Rattle.mbe_ops.proofs.EqualityLemmas.{op_weight, ops_weight}
use Rattle.mbe_session.proofs.repeat_lengths.+may_differ.Given as goal

abbrev pub invariant-may_differ-ops : goal.invariant-may_differ-ops
invariant-may_differ-ops g l = record {
  lighter : ops_weight (ops_of l.rest) ≤ ops_weight (ops_of l.ops);
}

abbrev pub decreases-may_differ-ops : goal.decreases-may_differ-ops
decreases-may_differ-ops g l = length l.rest

abbrev pub decreases-may_differ : goal.decreases-may_differ
decreases-may_differ g l = 2 * ops_weight (ops_of l.ops.now) + 1

abbrev pub decreases-may_differ_in : goal.decreases-may_differ_in
decreases-may_differ_in g l = 2 * op_weight (op_of l.op.now)
