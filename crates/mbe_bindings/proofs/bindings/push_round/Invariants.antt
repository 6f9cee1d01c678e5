use Rattle.std.proofs.Common.{◌≡◌, ◌-◌, map, vec_len}
use Rattle.mbe_semantics.specs.Bindings.Account.{filled}
use Rattle.mbe_bindings.specs.BindingViews.{value_seen, all_values}
use Rattle.mbe_bindings.proofs.bindings.push_round.Given as goal

abbrev pub invariant-loop-alloc : goal.invariant-loop-alloc
invariant-loop-alloc g l = record {
  same : l.value ≡ l.fn.value;
  filling : filled l.number (all_values (map value_seen l.list.items))
      ≡ filled l.number (all_values (map value_seen l.fn.list.items));
}

abbrev pub decreases-loop-alloc : goal.decreases-loop-alloc
decreases-loop-alloc g l = l.number - vec_len l.list
