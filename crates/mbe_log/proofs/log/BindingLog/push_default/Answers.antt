use Rattle.std.proofs.Common.{◌≡◌, ◌∙◌, ◌++◌, [], ◌∷◌, ap, length, rules}
use Rattle.mbe_log.proofs.CodeLemmas.{finished_within, default-changed, default-sound, default-writes}
use Rattle.mbe_log.proofs.log.BindingLog.push_default.Goals as goal

pub extend-requires : goal.extend-requires
extend-requires g c =
    finished_within c.self.inside.commands.items c.self.inside.rounds.items c.args.self.now c.self.view_is
    c.handle.inside.current c.handle.inside.finished c.args.handle.now c.handle.view_is c.requires

pub invariant_of-self-2 : goal.invariant_of-self-2
invariant_of-self-2 g c =
    let d = c.push_reserved.ensures.items ∙ ap (λ x. x ++ c.from_link.result ∷ []) c.in_ok-reserve.ensures.items
    ∙ ap (λ l. c.self.inside.commands.items ++ l ∷ []) c.from_link.ensures in
    default-sound c.self.inside.commands.items c.self.inside.rounds.items c.args.self.now c.self.view_is
    c.handle.inside.current c.handle.inside.finished c.args.handle.now c.handle.view_is c.self.inside.nested
    c.push_reserved.new.self.items c.extend.new.lists.items c.in_ok-finished.finished d
    c.in_ok-finished.ensures.ok c.requires c.self.invariant

pub returns-clause-ok : goal.returns-clause-ok
returns-clause-ok g c =
    let d = c.push_reserved.ensures.items ∙ ap (λ x. x ++ c.from_link.result ∷ []) c.in_ok-reserve.ensures.items
    ∙ ap (λ l. c.self.inside.commands.items ++ l ∷ []) c.from_link.ensures in
    let i : c.len-list.result ≡ length c.self.inside.commands.items = search rules in
    default-changed c.self.inside.commands.items c.self.inside.rounds.items c.args.self.now c.self.view_is
    c.handle.inside.current c.handle.inside.finished c.args.handle.now c.handle.view_is
    c.push_reserved.new.self.items c.extend.new.lists.items c.in_ok-finished.finished c.len-list.result d i
    c.in_ok-finished.ensures.ok c.requires

pub returns-clause-written : goal.returns-clause-written
returns-clause-written g c =
    default-writes c.self.inside.commands.items c.self.inside.rounds.items c.args.self.now c.self.view_is
    c.handle.inside.current c.handle.inside.finished c.args.handle.now c.handle.view_is c.extend.new.lists.items
    c.in_ok-finished.finished c.handle.inside.current c.len-list.result c.in_ok-finished.ensures.ok
