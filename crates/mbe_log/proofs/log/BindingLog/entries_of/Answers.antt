use Rattle.mbe_log.proofs.CodeLemmas.{account-there, lengths}
use Rattle.mbe_log.proofs.log.BindingLog.entries_of.Goals as goal

pub returns-clause-lengths : goal.returns-clause-lengths
returns-clause-lengths g c =
    λ w. lengths c.self.inside.commands.items c.self.inside.rounds.items c.args.self.now c.self.view_is
    c.handle.inside.current c.handle.inside.finished c.args.handle.now c.handle.view_is w

pub returns-clause-account : goal.returns-clause-account
returns-clause-account g c =
    account-there c.self.inside.commands.items c.self.inside.rounds.items c.args.self.now c.self.view_is
    c.handle.inside.current c.handle.inside.finished c.args.handle.now c.handle.view_is c.self.inside.nested
    c.self.invariant c.requires
