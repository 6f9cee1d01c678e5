use Rattle.std.proofs.Common.{◌≡◌, ◌+◌, ◌*◌, ◌≤◌, ◌++◌, map}
use Rattle.mbe_ops.specs.Views.{op_of, ops_of}
use Rattle.mbe_ops.specs.OpIter.{events_left, ops_in}
use Rattle.mbe_ops.proofs.EqualityLemmas.{op_weight, ops_weight}
use Rattle.mbe_matcher.specs.Readings.States.{states}
use Rattle.mbe_matcher.specs.Readings.Views.{state_seen}
use Rattle.mbe_matcher.proofs.readings.states.+spotting.Given as goal

abbrev pub invariant-push_states-loop-stop : goal.invariant-push_states-loop-stop
invariant-push_states-loop-stop g l = record {
  lighter : ops_weight (ops_in (events_left l.stop-iterator)) ≤ ops_weight (ops_of l.fn.ops);
  so_far : map state_seen l.all.items ++ states (ops_in (events_left l.stop-iterator)) (state_seen l.end)
      ≡ map state_seen l.fn.all.items ++ states (ops_of l.fn.ops) (state_seen l.end);
}

abbrev pub decreases-push_states : goal.decreases-push_states
decreases-push_states g l = 2 * ops_weight (ops_of l.ops.now) + 1

abbrev pub decreases-push_op : goal.decreases-push_op
decreases-push_op g l = 2 * op_weight (op_of l.op.now)
