use Rattle.std.proofs.Common.{◌≡◌, rules, subst, sym}
use Rattle.mbe_rewriter.specs.MacroItemViews.{call_shown}
use Rattle.mbe_session.specs.CallExpansion.{StaysUnexpanded, not_found, limited}
use Rattle.mbe_session.specs.SessionViews.{setting_of, state_of}
use Rattle.mbe_session.proofs.CallLemmas.{not_there, stays_too_deep, tries_as}
use Rattle.mbe_session.proofs.file_expander.FileExpander.single_step.Goals as goal

pub returns-then-levels-eq0-clause-tries : goal.returns-then-levels-eq0-clause-tries
returns-then-levels-eq0-clause-tries g c =
    let same : state_of c.note_too_deep.new.self ≡ state_of c.args.self.now = search rules in
    subst (StaysUnexpanded (setting_of c.args.self.now) (call_shown c.args.call) c.args.depth
    (state_of c.args.self.now) c.args.levels) (sym same)
    (stays_too_deep _ _ c.args.depth c.args.levels _ (search rules))

pub returns-then-is_none-clause-tries : goal.returns-then-is_none-clause-tries
returns-then-is_none-clause-tries g c =
    let same : state_of c.note_unresolved.new.self ≡ state_of c.args.self.now = search rules in
    subst (StaysUnexpanded (setting_of c.args.self.now) (call_shown c.args.call) c.args.depth
    (state_of c.args.self.now) c.args.levels) (sym same)
    (not_found c.args.levels (not_there _ c.rules.result _ c.rules.ensures (search rules)))

pub returns-then-not-branch-clause-tries : goal.returns-then-not-branch-clause-tries
returns-then-not-branch-clause-tries g c = limited c.args.levels _ (search rules)

pub returns-clause-tries : goal.returns-clause-tries
returns-clause-tries g c =
    tries_as (setting_of c.args.self.now) (setting_of c.may_expand.new.self) (call_shown c.args.call) c.args.depth
    c.args.levels (state_of c.args.self.now)
    (state_of c.may_expand.new.self) (state_of c.apply_rules.new.self) c.apply_rules.result (search rules)
    (search rules)
    (search rules) c.apply_rules.ensures.applies
