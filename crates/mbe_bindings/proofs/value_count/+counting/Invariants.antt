use Rattle.std.proofs.Common.{◌≡◌, ◌+◌, ◌≤◌, min, drop}
use Rattle.mbe_semantics.specs.Bindings.Environment.{binding_counts}
use Rattle.mbe_bindings.specs.BindingViews.{values_seen}
use Rattle.mbe_bindings.proofs.value_count.+counting.Given as goal

abbrev pub invariant-binding_counts-loop-value : goal.invariant-binding_counts-loop-value
invariant-binding_counts-loop-value g l = record {
  counted : min (binding_counts (values_seen l.values)) 18446744073709551615
      ≡ min (l.count + binding_counts (values_seen (drop l.value-index l.values))) 18446744073709551615;
  most : l.count ≤ 18446744073709551615;
}
