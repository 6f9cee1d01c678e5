use Rattle.std.proofs.Common.{◌≡◌, ◌≢◌, ◌∙◌, ap, sym, subst, refl, true, false, is_some, Some, inr, [], rules}
use Rattle.std.proofs.lemmas.Bool.{true≢false}
use Rattle.mbe_tt.specs.Trees.Top.{top_group}
use Rattle.mbe_tt.specs.Views.View.{trees, group_of}
use Rattle.mbe_semantics.specs.Readings.Verdict.{IsVerdict, unmatched, one_reading}
use Rattle.mbe_semantics.specs.Bindings.Account.{run}
use Rattle.mbe_semantics.specs.Bindings.Environment.{environment_of}
use Rattle.mbe_semantics.specs.Transcription.Substitution.{faults}
use Rattle.mbe_laws.proofs.Bindings.CommandLemmas.{commands_bind_alike}
use Rattle.mbe_ops.specs.Views.{template_of}
use Rattle.mbe_bindings.specs.BindingViews.{env_of}
use Rattle.mbe_ops.specs.Errors.ErrorViews.{error_of, errors_of}
use Rattle.mbe_matcher.specs.MatchResults.{verdict_seen, Binds}
use Rattle.mbe_transcriber.specs.TemplateFaults.{first_fault}
use Rattle.mbe_parser.specs.RuleViews.{rule_of}
use Rattle.mbe.specs.ClosestRule.{IsFaulty}
use Rattle.mbe.proofs.TriedLemmas.{unfit_of, unfit, faulty, applied}
use Rattle.mbe.proofs.expander.match_rule.Goals as goal

pub returns-in-Some : goal.returns-in-Some
returns-in-Some g c =
    let h = g.G.FragmentGrammar.grammar c.args.call.now.grammar.now in
    let input = group_of c.args.call.now.input in
    let site = c.args.call.now.site in
    let r = rule_of c.args.rule.now in
    let m = c.in_ok-matched.ensures in
    let v = verdict_seen c.in_ok-matched.matched.verdict in
    let same : trees c.remaining-argument.result ≡ input.1 =
    c.remaining-argument.ensures ∙ c.iter.ensures in
    let right = subst (λ f. IsVerdict h (template_of c.args.rule.now.lhs) f v) same m.verdict in
    let left = c.nearness_of-nearness.ensures.left ∙ m.unmatched ∙ ap (λ f. unmatched f v) same in
    let many : v ≢ one_reading =
    λ one. true≢false (sym (ap (λ e. is_some (errors_of e)) c.in-Some.is) ∙ m.err.1 one) in
    let reported = rw c.in-Some.is at m.reports in
    let u = unfit_of h site input r v right many _ same _ (search rules) _ _ _ reported
    (env_of c.in_ok-bindings.bindings) c.in_ok-bindings.ensures in
    let both = unfit h site input r v right _ left _ _ many u
    c.nearness_of-nearness.ensures.bound in
    (both.0, both.1, u)

pub returns-in-Some-err : goal.returns-in-Some-err
returns-in-Some-err g c =
    let h = g.G.FragmentGrammar.grammar c.args.call.now.grammar.now in
    let input = group_of c.args.call.now.input in
    let site = c.args.call.now.site in
    let r = rule_of c.args.rule.now in
    let m = c.in_ok-matched.ensures in
    let v = verdict_seen c.in_ok-matched.matched.verdict in
    let same : trees c.remaining-argument.result ≡ input.1 =
    c.remaining-argument.ensures ∙ c.iter.ensures in
    let right = subst (λ f. IsVerdict h (template_of c.args.rule.now.lhs) f v) same m.verdict in
    let left = c.nearness_of-nearness.ensures.left ∙ m.unmatched ∙ ap (λ f. unmatched f v) same in
    let one : v ≡ one_reading = m.err.0 (ap (λ e. is_some (errors_of e)) c.in_default.is) in
    let binds = subst (λ f. Binds h r.reads f c.match_argument.new.log c.in_ok-matched.matched.bindings) same
    (m.binds one) in
    let bound : env_of c.in_ok-bindings.bindings ≡ environment_of binds.0 =
    c.in_ok-bindings.ensures binds.2.0 binds.2.1 ∙ ap (λ cs. run cs []) binds.2.2
    ∙ commands_bind_alike h r.reads input.1 binds.0 binds.1.1.0 in
    let env = env_of c.in_ok-bindings.bindings in
    let fault : faults env [] r.writes ≡ true = sym c.in_ok-written.ensures.fault ∙ ap is_some c.in-Some-err.is in
    let first : first_fault site env [] r.writes ≡ Some (error_of c.in-Some-err.fault) =
    sym c.in_ok-written.ensures.first ∙ ap errors_of c.in-Some-err.is in
    let f : IsFaulty h site input r (error_of c.in-Some-err.fault) env =
    record { items = binds.0; fits = binds.1; bound = bound; fault = first } in
    let both = faulty h site input r v right _ left _ _ f
    c.nearness_of-nearness.ensures.bound fault in (
      both.0,
      both.1,
      (
        record {
          error = error_of c.in-Some-err.fault;
          env = env_of c.in_ok-bindings.bindings;
          reported = refl;
          fails = inr f;
          left = c.in_ok-written.ensures.left;
        },
        (binds.0, binds.1),
      ),
    )

pub returns : goal.returns
returns g c =
    let h = g.G.FragmentGrammar.grammar c.args.call.now.grammar.now in
    let input = group_of c.args.call.now.input in
    let site = c.args.call.now.site in
    let r = rule_of c.args.rule.now in
    let m = c.in_ok-matched.ensures in
    let v = verdict_seen c.in_ok-matched.matched.verdict in
    let same : trees c.remaining-argument.result ≡ input.1 =
    c.remaining-argument.ensures ∙ c.iter.ensures in
    let one : v ≡ one_reading = m.err.0 (ap (λ e. is_some (errors_of e)) c.in_default.is) in
    let binds = subst (λ f. Binds h r.reads f c.match_argument.new.log c.in_ok-matched.matched.bindings) same
    (m.binds one) in
    let bound : env_of c.in_ok-bindings.bindings ≡ environment_of binds.0 =
    c.in_ok-bindings.ensures binds.2.0 binds.2.1 ∙ ap (λ cs. run cs []) binds.2.2
    ∙ commands_bind_alike h r.reads input.1 binds.0 binds.1.1.0 in
    let env = env_of c.in_ok-bindings.bindings in
    let faultless : faults env [] r.writes ≡ false = sym c.in_ok-written.ensures.fault ∙ ap is_some c.in-None.is in
    applied h site input r _ (top_group c.in_ok-written.written.value) binds.0 binds.1
    env bound faultless (c.in_ok-written.ensures.substitution faultless)
