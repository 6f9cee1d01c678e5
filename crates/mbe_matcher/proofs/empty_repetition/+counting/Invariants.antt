use Rattle.std.proofs.Common.{◌≡◌, ◌+◌, ◌*◌, ◌≤◌}
use Rattle.mbe_semantics.specs.Matching.States.{state_count}
use Rattle.mbe_ops.specs.Views.{op_of, ops_of}
use Rattle.mbe_ops.specs.OpIter.{events_left, ops_in}
use Rattle.mbe_ops.proofs.EqualityLemmas.{op_weight, ops_weight}
use Rattle.mbe_matcher.proofs.empty_repetition.+counting.Given as goal

abbrev pub invariant-count_states-loop-stop : goal.invariant-count_states-loop-stop
invariant-count_states-loop-stop g l = record {
  lighter : ops_weight (ops_in (events_left l.stop-iterator)) ≤ ops_weight (ops_of l.fn.ops);
  counted : l.count + state_count (ops_in (events_left l.stop-iterator)) ≡ state_count (ops_of l.fn.ops) + 1;
}

abbrev pub decreases-count_states : goal.decreases-count_states
decreases-count_states g l = 2 * ops_weight (ops_of l.ops.now) + 1

abbrev pub decreases-count_op_states : goal.decreases-count_op_states
decreases-count_op_states g l = 2 * op_weight (op_of l.op.now)
