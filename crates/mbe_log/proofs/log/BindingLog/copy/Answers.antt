use Rattle.std.proofs.Common.{arith}
use Rattle.mbe_log.proofs.CodeLemmas.{current_within, finished_within, copy-sound, copy-gives, lists-commands}
use Rattle.mbe_log.proofs.CodeLemmas.{lists-rounds, lists-given, lists-account, lists-few}
use Rattle.mbe_log.proofs.ChainLemmas.{part_there}
use Rattle.mbe_log.proofs.log.BindingLog.copy.Goals as goal

pub index-requires : goal.index-requires
index-requires g c =
    let k = part_there c.self.inside.commands.items c.handle.inside.current
    (current_within c.self.inside.commands.items c.self.inside.rounds.items c.args.self.now c.self.view_is
    c.handle.inside.current c.handle.inside.finished c.args.handle.now c.handle.view_is c.requires) in
    let o = c.self.inside.commands.ok in omega (arith, k, o)

pub index-requires-2 : goal.index-requires-2
index-requires-2 g c =
    let k = part_there c.self.inside.rounds.items c.handle.inside.finished
    (finished_within c.self.inside.commands.items c.self.inside.rounds.items c.args.self.now c.self.view_is
    c.handle.inside.current c.handle.inside.finished c.args.handle.now c.handle.view_is c.requires) in
    let o = c.self.inside.rounds.ok in omega (arith, k, o)

pub invariant_of-self-2 : goal.invariant_of-self-2
invariant_of-self-2 g c =
    copy-sound c.self.inside.commands.items c.self.inside.rounds.items c.args.self.now c.self.view_is
    c.handle.inside.current c.handle.inside.finished c.args.handle.now c.handle.view_is
    c.index.result.now c.index-2.result.now c.requires c.index.ensures c.index-2.ensures
    c.link_to-link.result c.link_to-round_link.result c.link_to-link.ensures c.link_to-round_link.ensures
    c.self.inside.nested c.new_handle.new.commands.items c.new_handle.new.rounds.items c.self.invariant
    c.in_ok-given.ensures.commands c.in_ok-given.ensures.rounds

pub returns-clause-given : goal.returns-clause-given
returns-clause-given g c =
    lists-given c.self.inside.commands.items c.self.inside.rounds.items c.args.self.now c.self.view_is
    c.link_to-link.result c.link_to-round_link.result c.new_handle.new.commands.items c.new_handle.new.rounds.items
    c.in_ok-given.ensures.commands c.in_ok-given.ensures.rounds
    c.in_ok-given.given c.in_ok-given.ensures.handle

pub returns-clause-account : goal.returns-clause-account
returns-clause-account g c =
    λ a k. lists-account c.self.inside.commands.items c.self.inside.rounds.items c.args.self.now c.self.view_is
    c.link_to-link.result c.link_to-round_link.result c.new_handle.new.commands.items c.new_handle.new.rounds.items
    c.in_ok-given.ensures.commands c.in_ok-given.ensures.rounds
    c.in_ok-given.given c.in_ok-given.ensures.handle a
    (copy-gives c.self.inside.commands.items c.self.inside.rounds.items c.args.self.now c.self.view_is
    c.handle.inside.current c.handle.inside.finished c.args.handle.now c.handle.view_is
    c.index.result.now c.index-2.result.now c.requires c.index.ensures c.index-2.ensures
    c.link_to-link.result c.link_to-round_link.result c.link_to-link.ensures c.link_to-round_link.ensures a k)

pub returns-clause-few : goal.returns-clause-few
returns-clause-few g c =
    lists-few c.self.inside.commands.items c.self.inside.rounds.items c.args.self.now c.self.view_is
    c.link_to-link.result c.link_to-round_link.result c.new_handle.new.commands.items c.new_handle.new.rounds.items
    c.in_ok-given.ensures.commands c.in_ok-given.ensures.rounds
    c.in_ok-given.given c.in_ok-given.ensures.handle

pub returns-clause-commands : goal.returns-clause-commands
returns-clause-commands g c =
    lists-commands c.self.inside.commands.items c.self.inside.rounds.items c.args.self.now c.self.view_is
    c.link_to-link.result c.link_to-round_link.result c.new_handle.new.commands.items c.new_handle.new.rounds.items
    c.in_ok-given.ensures.commands c.in_ok-given.ensures.rounds

pub returns-clause-rounds : goal.returns-clause-rounds
returns-clause-rounds g c =
    lists-rounds c.self.inside.commands.items c.self.inside.rounds.items c.args.self.now c.self.view_is
    c.link_to-link.result c.link_to-round_link.result c.new_handle.new.commands.items c.new_handle.new.rounds.items
    c.in_ok-given.ensures.commands c.in_ok-given.ensures.rounds
