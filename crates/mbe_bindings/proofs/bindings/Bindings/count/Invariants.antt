use Rattle.std.proofs.Common.{◌≡◌, ◌+◌, ◌≤◌, min}
use Rattle.mbe_semantics.specs.Bindings.Environment.{binding_total}
use Rattle.mbe_bindings.specs.BindingViews.{env_of}
use Rattle.mbe_bindings.proofs.BindingLemmas.{values_of}
use Rattle.mbe_bindings.proofs.bindings.Bindings.count.Given as goal

abbrev pub invariant-loop-name : goal.invariant-loop-name
invariant-loop-name g l = record {
  counted : min (binding_total (env_of l.self)) 18446744073709551615
      ≡ min (l.count + binding_total (values_of l._name-iterator)) 18446744073709551615;
  most : l.count ≤ 18446744073709551615;
}
