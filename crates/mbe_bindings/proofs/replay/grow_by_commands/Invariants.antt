use Rattle.std.proofs.Common.{◌≡◌, take}
use Rattle.mbe_semantics.specs.Bindings.Account.{add_round_in}
use Rattle.mbe_bindings.specs.BindingViews.{env_of}
use Rattle.mbe_bindings.specs.PlainCommands.{entry_rows}
use Rattle.mbe_bindings.proofs.replay.grow_by_commands.Given as goal

abbrev pub invariant-loop-index : goal.invariant-loop-index
invariant-loop-index g l =
    env_of l.bindings ≡ add_round_in l.number (entry_rows (take l.index l.list.own)) (env_of l.fn.bindings)
