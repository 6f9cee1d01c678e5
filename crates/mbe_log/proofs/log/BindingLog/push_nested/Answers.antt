use Rattle.std.proofs.Common.{◌≡◌, ◌+◌, rules}
use Rattle.mbe_log.proofs.CodeLemmas.{current_within, nested-sound, child-current, child-finished, nested-changes}
use Rattle.mbe_log.proofs.CodeLemmas.{push-writes}
use Rattle.mbe_log.proofs.log.BindingLog.push_nested.Goals as goal
use Rattle.mbe_log.specs.declared.log.Command.TheVariants.{Nested}

pub extend-requires : goal.extend-requires
extend-requires g c =
    current_within c.self.inside.commands.items c.self.inside.rounds.items c.args.self.now c.self.view_is
    c.parent.inside.current c.parent.inside.finished c.args.parent.now c.parent.view_is c.requires.parent

pub invariant_of-self-2 : goal.invariant_of-self-2
invariant_of-self-2 g c =
    let n : c.in_ok-nested.nested ≡ c.self.inside.nested + 1 = search rules in
    nested-sound c.self.inside.commands.items c.self.inside.rounds.items c.args.self.now c.self.view_is
    c.parent.inside.current c.parent.inside.finished c.args.parent.now c.parent.view_is c.self.inside.nested
    c.in_ok-nested.nested c.extend.new.lists.items c.in_ok-longer.longer
    c.child.inside.current c.child.inside.finished c.self.invariant n c.in_ok-longer.ensures.ok c.requires.parent
    (child-current c.self.inside.commands.items c.self.inside.rounds.items c.args.self.now c.self.view_is
    c.child.inside.current c.child.inside.finished c.args.child.now c.child.view_is c.requires.child)
    (child-finished c.self.inside.commands.items c.self.inside.rounds.items c.args.self.now c.self.view_is
    c.child.inside.current c.child.inside.finished c.args.child.now c.child.view_is c.requires.child)

pub returns-clause-ok : goal.returns-clause-ok
returns-clause-ok g c =
    nested-changes c.self.inside.commands.items c.self.inside.rounds.items c.args.self.now c.self.view_is
    c.parent.inside.current c.parent.inside.finished c.args.parent.now c.parent.view_is c.extend.new.lists.items
    c.in_ok-longer.longer c.child.inside.current c.child.inside.finished c.args.child.now c.child.view_is
    c.in_ok-longer.ensures.ok c.requires.parent

pub returns-clause-written : goal.returns-clause-written
returns-clause-written g c =
    push-writes c.self.inside.commands.items c.self.inside.rounds.items c.args.self.now c.self.view_is
    c.parent.inside.current c.parent.inside.finished c.args.parent.now c.parent.view_is c.extend.new.lists.items
    c.in_ok-longer.longer (Nested c.child.inside.finished c.child.inside.current) c.in_ok-longer.ensures.ok
