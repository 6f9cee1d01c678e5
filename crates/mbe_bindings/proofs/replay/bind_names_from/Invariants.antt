use Rattle.mbe_bindings.specs.BindingViews.{env_of}
use Rattle.mbe_bindings.specs.PlainCommands.{names_of}
use Rattle.mbe_bindings.proofs.RowLemmas.{BindSoFar}
use Rattle.mbe_bindings.proofs.replay.bind_names_from.Given as goal

abbrev pub invariant-loop-index : goal.invariant-loop-index
invariant-loop-index g l = BindSoFar l.list.own (names_of (env_of l.bindings)) l.start l.index
