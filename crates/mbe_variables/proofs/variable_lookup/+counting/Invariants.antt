use Rattle.std.proofs.Common.{◌≡◌, ◌+◌, ◌*◌, ◌≤◌}
use Rattle.std.specs.Prelude.{option_map, filter_map}
use Rattle.mbe_variables.specs.RoundCounts.{shortest, shorter, extent_seen}
use Rattle.mbe_semantics.specs.Syntax.Op.{uses_of}
use Rattle.mbe_semantics.specs.Transcription.Rounds.{extent_under}
use Rattle.mbe_ops.specs.Views.{op_of, ops_of}
use Rattle.mbe_ops.specs.OpIter.{events_left, ops_in}
use Rattle.mbe_ops.proofs.EqualityLemmas.{op_weight, ops_weight}
use Rattle.mbe_bindings.specs.BindingViews.{env_of}
use Rattle.mbe_variables.proofs.variable_lookup.+counting.Given as goal

abbrev pub invariant-shortest-loop-stop : goal.invariant-shortest-loop-stop
invariant-shortest-loop-stop g l = record {
  lighter : ops_weight (ops_in (events_left l.stop-iterator)) ≤ ops_weight (ops_of l.ops);
  least : shortest (filter_map (extent_under (env_of l.bindings) l.path) (uses_of (ops_of l.ops)))
      ≡ shorter (option_map extent_seen l.least)
      (shortest (filter_map (extent_under (env_of l.bindings) l.path)
      (uses_of (ops_in (events_left l.stop-iterator)))));
}

abbrev pub decreases-shortest : goal.decreases-shortest
decreases-shortest g l = 2 * ops_weight (ops_of l.ops.now) + 1

abbrev pub decreases-shortest_of_op : goal.decreases-shortest_of_op
decreases-shortest_of_op g l = 2 * op_weight (op_of l.op.now)
