use Rattle.std.proofs.Common.{◌≡◌, ◌+◌, ◌*◌, ◌≤◌, length}
use Rattle.mbe_ops.specs.Views.{op_of, ops_of}
use Rattle.mbe_ops.proofs.EqualityLemmas.{op_weight, ops_weight}
use Rattle.mbe_session.proofs.repeat_lengths.+lists.Given as goal

abbrev pub invariant-push_lists-ops : goal.invariant-push_lists-ops
invariant-push_lists-ops g l = record {
  lighter : ops_weight (ops_of l.rest) ≤ ops_weight (ops_of l.ops);
}

abbrev pub decreases-push_lists-ops : goal.decreases-push_lists-ops
decreases-push_lists-ops g l = length l.rest

abbrev pub decreases-push_lists : goal.decreases-push_lists
decreases-push_lists g l = 2 * ops_weight (ops_of l.ops.now) + 1

abbrev pub decreases-push_lists_in : goal.decreases-push_lists_in
decreases-push_lists_in g l = 2 * op_weight (op_of l.op.now)
