use Rattle.std.proofs.Common.{◌≡◌, ◌∙◌, ap, subst, inl, inr, []}
use Rattle.mbe_tt.specs.Views.View.{trees}
use Rattle.mbe_semantics.specs.Readings.Verdict.{IsVerdict, one_reading}
use Rattle.mbe_semantics.specs.Bindings.Account.{run}
use Rattle.mbe_semantics.specs.Bindings.Environment.{environment_of}
use Rattle.mbe_laws.proofs.Bindings.CommandLemmas.{commands_bind_alike}
use Rattle.mbe_bindings.specs.BindingViews.{env_of}
use Rattle.mbe_parser.specs.RuleViews.{rule_of}
use Rattle.mbe_matcher.specs.MatchResults.{verdict_seen, Binds}
use Rattle.mbe.specs.MacroViews.{macro_of}
use Rattle.mbe.proofs.BindsLemmas.{none_if_many, none_if_ambiguous, none_if_stuck}
use Rattle.mbe.proofs.ChoiceLemmas.{seen_there}
use Rattle.mbe.proofs.ClosestLemmas.{all_checked}
use Rattle.mbe.proofs.macros.DeclarativeMacro.bindings.Goals as goal

pub match_argument-requires : goal.match_argument-requires
match_argument-requires g c =
    all_checked (macro_of c.args.self.now) c.args.self.now.tells_refusal c.requires.checked _ _
    (seen_there rule_of c.args.self.now.rules.items _ _ c.requires.rule c.index-rule.ensures)

pub returns-in-OneReading : goal.returns-in-OneReading
returns-in-OneReading g c =
    let here = seen_there rule_of c.args.self.now.rules.items _ _ c.requires.rule c.index-rule.ensures in
    let h = g.G.FragmentGrammar.grammar c.args.grammar.now in
    let r = rule_of c.index-rule.result.now in
    let same : trees c.remaining-argument.result ≡ c.args.tt.now.1 = c.remaining-argument.ensures ∙ c.iter.ensures in
    let one : verdict_seen c.in_ok-matched.matched.verdict ≡ one_reading = ap verdict_seen c.in-OneReading.is in
    let binds = subst (λ f. Binds h r.reads f c.match_argument.new.log c.in_ok-matched.matched.bindings) same
    (c.in_ok-matched.ensures.binds one) in
    let bound : env_of c.in_ok-build-in-OneReading.field-0 ≡ environment_of binds.0 =
    c.in_ok-build-in-OneReading.ensures binds.2.0 binds.2.1 ∙ ap (λ cs. run cs []) binds.2.2
    ∙ commands_bind_alike h r.reads c.args.tt.now.1 binds.0 binds.1.1.0 in
    record { binds = (r, here, (binds.0, binds.1, bound)) }

pub returns : goal.returns
returns g c =
    let here = seen_there rule_of c.args.self.now.rules.items _ _ c.requires.rule c.index-rule.ensures in
    let h = g.G.FragmentGrammar.grammar c.args.grammar.now in
    let r = rule_of c.index-rule.result.now in
    let v = verdict_seen c.in_ok-matched.matched.verdict in
    let same : trees c.remaining-argument.result ≡ c.args.tt.now.1 = c.remaining-argument.ensures ∙ c.iter.ensures in
    let right = subst (λ f. IsVerdict h r.reads f v) same c.in_ok-matched.ensures.verdict in
    let f = c.args.tt.now.1 in
    record {
      binds = (
        r,
        here,
        elim c.in-ManyReadings.is [
          | inl w ↦ none_if_many h r f v right (ap verdict_seen w)
          | inr (inl w) ↦ none_if_ambiguous h r f v right w.0 (ap verdict_seen w.1)
          | inr (inr w) ↦ none_if_stuck h r f v right w.0 (ap verdict_seen w.1)
        ],
      );
    }
