use Rattle.mbe_log.proofs.CodeLemmas.{current_within, push-changes, plain-sound, push-writes}
use Rattle.mbe_log.proofs.log.BindingLog.push.Goals as goal

pub extend-requires : goal.extend-requires
extend-requires g c =
    current_within c.self.inside.commands.items c.self.inside.rounds.items c.args.self.now c.self.view_is
    c.handle.inside.current c.handle.inside.finished c.args.handle.now c.handle.view_is c.requires.entries

pub invariant_of-self-2 : goal.invariant_of-self-2
invariant_of-self-2 g c =
    plain-sound c.self.inside.commands.items c.self.inside.rounds.items c.args.self.now c.self.view_is
    c.handle.inside.current c.handle.inside.finished c.args.handle.now c.handle.view_is c.self.inside.nested
    c.extend.new.lists.items c.in_ok-current.current c.args.command c.self.invariant
    c.in_ok-current.ensures.ok c.requires.entries c.requires.plain

pub returns-clause-ok : goal.returns-clause-ok
returns-clause-ok g c =
    push-changes c.self.inside.commands.items c.self.inside.rounds.items c.args.self.now c.self.view_is
    c.handle.inside.current c.handle.inside.finished c.args.handle.now c.handle.view_is c.extend.new.lists.items
    c.in_ok-current.current c.args.command c.in_ok-current.ensures.ok c.requires.entries

pub returns-clause-written : goal.returns-clause-written
returns-clause-written g c =
    push-writes c.self.inside.commands.items c.self.inside.rounds.items c.args.self.now c.self.view_is
    c.handle.inside.current c.handle.inside.finished c.args.handle.now c.handle.view_is c.extend.new.lists.items
    c.in_ok-current.current c.args.command c.in_ok-current.ensures.ok
