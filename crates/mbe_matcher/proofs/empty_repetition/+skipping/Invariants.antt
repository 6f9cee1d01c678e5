use Rattle.std.proofs.Common.{◌≡◌, ◌+◌, ◌*◌, ◌≤◌, length}
use Rattle.mbe_semantics.specs.Bindings.Account.{HasEntriesOf}
use Rattle.mbe_semantics.specs.Matching.States.{state_count}
use Rattle.mbe_ops.specs.Views.{op_of, ops_of}
use Rattle.mbe_ops.proofs.EqualityLemmas.{op_weight, ops_weight}
use Rattle.mbe_matcher.proofs.SkipLemmas.{SkipsUpTo}
use Rattle.mbe_matcher.proofs.empty_repetition.+skipping.Given as goal

abbrev pub invariant-skip_ops-ops : goal.invariant-skip_ops-ops
invariant-skip_ops-ops g l = record {
  entries : HasEntriesOf l.log l.handle;
  lighter : ops_weight (ops_of l.left) ≤ ops_weight (ops_of l.fn.ops);
  so_far : SkipsUpTo l.fn.log l.log l.fn.handle l.handle (ops_of l.fn.ops) (ops_of l.left);
  counted : l.count + state_count (ops_of l.left) ≡ state_count (ops_of l.fn.ops) + (length l.left + 1);
}

abbrev pub decreases-skip_ops-ops : goal.decreases-skip_ops-ops
decreases-skip_ops-ops g l = length l.left

abbrev pub decreases-skip_ops : goal.decreases-skip_ops
decreases-skip_ops g l = 2 * ops_weight (ops_of l.ops.now) + 1

abbrev pub decreases-skip_op : goal.decreases-skip_op
decreases-skip_op g l = 2 * op_weight (op_of l.op.now)
