use Rattle.std.proofs.Common.{◌≡◌}
use Rattle.mbe_semantics.specs.Bindings.Account.{add_round_in}
use Rattle.mbe_bindings.specs.BindingViews.{env_of}
use Rattle.mbe_bindings.proofs.BindingLemmas.{values_of}
use Rattle.mbe_bindings.proofs.bindings.Bindings.add_round.Given as goal

abbrev pub invariant-loop-name : goal.invariant-loop-name
invariant-loop-name g l =
    add_round_in l.number (values_of l.name-iterator) (env_of l.self)
    ≡ add_round_in l.number (values_of l.initial.name-iterator) (env_of l.initial.self)
