use Rattle.std.proofs.Common.{◌∙◌, ap, sym}
use Rattle.mbe_semantics.specs.Bindings.Account.{add_round_in}
use Rattle.mbe_bindings.specs.BindingViews.{env_of}
use Rattle.mbe_bindings.proofs.BindingLemmas.{values_of}
use Rattle.mbe_bindings.proofs.bindings.Bindings.add_round.Goals as goal

pub returns : goal.returns
returns g c =
    ap (λ it. add_round_in c.args.number (values_of it) (env_of c.loop-name.self)) (sym c.in-None.ensures.steps.0)
    ∙ c.loop-name.invariant
    ∙ ap (λ it. add_round_in c.args.number (values_of it) (env_of c.args.self.now))
    c.into_iter-name-iterator.ensures.into_iter_gives.0
