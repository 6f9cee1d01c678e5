use Rattle.std.proofs.Common.{None, subst, sym}
use Rattle.mbe_log.specs.Chain.{with_link}
use Rattle.mbe_log.specs.Sound.{IsSound}
use Rattle.mbe_semantics.specs.Bindings.Account.{no_account, gives_nothing, gives_no_rounds, no_commands}
use Rattle.mbe_semantics.specs.Bindings.Account.{no_command_rounds}
use Rattle.mbe_log.proofs.SoundLemmas.{sound-empty}
use Rattle.mbe_log.proofs.CodeLemmas.{lists-given, lists-account}
use Rattle.mbe_log.proofs.log.BindingLog.alloc.Goals as goal

pub invariant_of-self-2 : goal.invariant_of-self-2
invariant_of-self-2 g c =
    subst (λ x. IsSound x c.new_handle.new.rounds.items c.self.inside.nested) (sym c.in_ok-handle.ensures.commands)
    (subst (λ x. IsSound (with_link c.self.inside.commands.items None) x c.self.inside.nested)
    (sym c.in_ok-handle.ensures.rounds)
    (sound-empty c.self.inside.commands.items c.self.inside.rounds.items c.self.inside.nested c.self.invariant))

pub returns-clause-given : goal.returns-clause-given
returns-clause-given g c =
    lists-given c.self.inside.commands.items c.self.inside.rounds.items c.args.self.now c.self.view_is None None
    c.new_handle.new.commands.items c.new_handle.new.rounds.items c.in_ok-handle.ensures.commands
    c.in_ok-handle.ensures.rounds
    c.in_ok-handle.handle c.in_ok-handle.ensures.handle

pub returns-clause-account : goal.returns-clause-account
returns-clause-account g c =
    lists-account c.self.inside.commands.items c.self.inside.rounds.items c.args.self.now c.self.view_is None None
    c.new_handle.new.commands.items c.new_handle.new.rounds.items c.in_ok-handle.ensures.commands
    c.in_ok-handle.ensures.rounds
    c.in_ok-handle.handle c.in_ok-handle.ensures.handle no_account
    (gives_nothing no_commands, gives_no_rounds no_command_rounds)
