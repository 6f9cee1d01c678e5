use Rattle.std.proofs.Common.{◌≡◌, take, rules, subst}
use Rattle.mbe_semantics.specs.Bindings.Account.{add_round_in}
use Rattle.mbe_bindings.specs.BindingViews.{env_of}
use Rattle.mbe_bindings.specs.PlainCommands.{entry_rows}
use Rattle.mbe_bindings.proofs.RowLemmas.{grow-step}
use Rattle.mbe_bindings.proofs.replay.grow_by_commands.Goals as goal

pub loop-index-preserved : goal.loop-index-preserved
loop-index-preserved g c =
    grow-step c.args.list.now.own c.args.number c.loop-index.index c.own_at.result.now (env_of c.args.bindings.now)
    (env_of c.loop-index.bindings) (env_of c.grow_by_command.new.bindings) c.own_at.ensures c.loop-index.invariant
    c.in_ok-grow_by_command.ensures

pub returns : goal.returns
returns g c =
    let end : c.loop-index.index ≡ c.args.count = search rules in
    subst (λ n. env_of c.loop-index.bindings
    ≡ add_round_in c.args.number (entry_rows (take n c.args.list.now.own)) (env_of c.args.bindings.now)) end
    c.loop-index.invariant
