use Rattle.std.proofs.Common.{◌≡◌, ◌+◌, subst, length, arith}
use Rattle.mbe.specs.MacroViews.{macro_of}
use Rattle.mbe.specs.RuleExplanation.{CommitsThere, Explains}
use Rattle.mbe_matcher.specs.MatchResults.{verdict_seen}
use Rattle.mbe_session.specs.CallFailure.{FailsFrom, no_rule_is_left, rule_stops, rule_is_ambiguous}
use Rattle.mbe_session.specs.CallFailure.{fragment_fails, rule_has_readings, rule_matches}
use Rattle.mbe_session.proofs.call_failure.call_failure.Goals as goal

pub returns-then-is_committed : goal.returns-then-is_committed
returns-then-is_committed g c =
    let h = g.G.FragmentGrammar.grammar c.args.grammar.now in
    let rs = (macro_of c.args.rules.now).rules in
    let argument = c.args.argument.now.1 in
    let index = c.loop-index.index in
    c.loop-index.invariant _ (fragment_fails index c.loop-index.furthest c.in-Stuck.offset
    (subst (λ v. Explains h rs argument index (verdict_seen v)) c.in-Stuck.is c.in_ok-offset.ensures.explains)
    (subst (CommitsThere h rs argument index) c.if-is_committed.true c.in_ok-is_committed-in-Stuck.ensures))

pub returns-in-Ambiguous : goal.returns-in-Ambiguous
returns-in-Ambiguous g c =
    let h = g.G.FragmentGrammar.grammar c.args.grammar.now in
    let rs = (macro_of c.args.rules.now).rules in
    c.loop-index.invariant _ (rule_is_ambiguous c.loop-index.index c.loop-index.furthest c.in-Ambiguous.offset
    (subst (λ v. Explains h rs c.args.argument.now.1 c.loop-index.index (verdict_seen v)) c.in-Ambiguous.is
    c.in_ok-offset.ensures.explains))

pub returns-in-ManyReadings : goal.returns-in-ManyReadings
returns-in-ManyReadings g c =
    let h = g.G.FragmentGrammar.grammar c.args.grammar.now in
    let rs = (macro_of c.args.rules.now).rules in
    c.loop-index.invariant _ (rule_has_readings c.loop-index.index c.loop-index.furthest
    (subst (λ v. Explains h rs c.args.argument.now.1 c.loop-index.index (verdict_seen v)) c.in-ManyReadings.is
    c.in_ok-offset.ensures.explains))

pub returns-in-OneReading : goal.returns-in-OneReading
returns-in-OneReading g c =
    let h = g.G.FragmentGrammar.grammar c.args.grammar.now in
    let rs = (macro_of c.args.rules.now).rules in
    c.loop-index.invariant _ (rule_matches c.loop-index.index c.loop-index.furthest
    (subst (λ v. Explains h rs c.args.argument.now.1 c.loop-index.index (verdict_seen v)) c.in-OneReading.is
    c.in_ok-offset.ensures.explains))

pub loop-index-preserved : goal.loop-index-preserved
loop-index-preserved g c =
    let h = g.G.FragmentGrammar.grammar c.args.grammar.now in
    let rs = (macro_of c.args.rules.now).rules in
    let argument = c.args.argument.now.1 in
    let index = c.loop-index.index in
    λ why rest. c.loop-index.invariant why (rule_stops index c.loop-index.furthest c.in-Stuck.offset why
    (subst (λ v. Explains h rs argument index (verdict_seen v)) c.in-Stuck.is c.in_ok-offset.ensures.explains)
    (subst (CommitsThere h rs argument index) c.if-is_committed.false c.in_ok-is_committed-in-Stuck.ensures)
    (subst (λ n. FailsFrom h rs argument (index + 1) n why) c.later-furthest.ensures rest))

pub returns : goal.returns
returns g c =
    let end = c.num_rules-index-end.ensures in
    let below = c.loop-index.auto.index-end in
    let over = c.loop-index-test.false in
    let none : c.loop-index.index ≡ length (macro_of c.args.rules.now).rules = omega (arith, end, below, over) in
    c.loop-index.invariant _ (no_rule_is_left c.loop-index.index c.loop-index.furthest none)
