use Rattle.std.proofs.Common.{◌≡◌, refl, rules, subst}
use Rattle.mbe_bindings.specs.BindingViews.{env_of}
use Rattle.mbe_bindings.specs.PlainCommands.{names_of}
use Rattle.mbe_bindings.proofs.RowLemmas.{BindSoFar, bind-step, bind-end}
use Rattle.mbe_bindings.proofs.replay.bind_names_from.Goals as goal

pub loop-index-preserved : goal.loop-index-preserved
loop-index-preserved g c =
    bind-step c.args.list.now.own (names_of (env_of c.args.bindings.now)) c.args.start c.loop-index.index
    c.own_at.result.now c.own_at.ensures (c.if-not-binds_name_at.ensures refl) c.loop-index.invariant

pub returns : goal.returns
returns g c =
    let end : c.loop-index.index ≡ c.args.count = search rules in
    λ _. bind-end c.args.list.now.own (names_of (env_of c.args.bindings.now)) c.args.start c.args.count
    c.has_names.ensures.distinct
    (subst (BindSoFar c.args.list.now.own (names_of (env_of c.args.bindings.now)) c.args.start) end
    c.loop-index.invariant)
