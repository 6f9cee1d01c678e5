use Rattle.std.proofs.Common.{◌≡◌, ◌∙◌, Some, ap, subst, inl, rules}
use Rattle.mbe_tt.specs.Trees.Top.{top_group}
use Rattle.mbe_tt.specs.Views.View.{trees, group_of}
use Rattle.mbe_tt.specs.declared.span.Span.{Span}
use Rattle.mbe_semantics.specs.Readings.Verdict.{stuck}
use Rattle.mbe_semantics.specs.Bindings.Account.{no_commands}
use Rattle.mbe_ops.specs.Views.{template_of}
use Rattle.mbe_bindings.specs.BindingViews.{env_of}
use Rattle.mbe_ops.specs.Errors.ErrorViews.{error_of, errors_of}
use Rattle.mbe_matcher.specs.Failures.{Reports}
use Rattle.mbe_matcher.specs.Fronts.{starts_with_wrong_token}
use Rattle.mbe_matcher.proofs.MatchEnds.{both_ok}
use Rattle.mbe_transcriber.specs.PartialExpansion.{IsPartialExpansion}
use Rattle.mbe_parser.specs.RuleViews.{rule_of}
use Rattle.mbe.specs.ClosestRule.{spans_of, IsRecovered}
use Rattle.mbe.proofs.TriedLemmas.{recover_other_start}
use Rattle.mbe.proofs.expander.recover_other_start.Goals as goal

pub error_at_start-requires-clause-otherwise : goal.error_at_start-requires-clause-otherwise
error_at_start-requires-clause-otherwise g c =
    ap (starts_with_wrong_token (g.G.FragmentGrammar.grammar c.args.call.now.grammar.now).dialect
    (template_of c.args.rule.now.lhs)) (c.remaining-argument.ensures ∙ c.iter.ensures)
    ∙ c.requires.otherwise

pub returns-clause-recovered : goal.returns-clause-recovered
returns-clause-recovered g c =
    let h = g.G.FragmentGrammar.grammar c.args.call.now.grammar.now in
    let input = group_of c.args.call.now.input in
    let site = c.args.call.now.site in
    let marks = λ (s t : Span). g.M.Fn.post c.args.call.now.marker (s, tt) t in
    let r = rule_of c.args.rule.now in
    let err = error_of c.in_ok-err.err in
    let env = env_of c.new-bound.result in
    let same : trees c.remaining-argument.result ≡ input.1 =
    c.remaining-argument.ensures ∙ c.iter.ensures in
    let around : c.delim_span-spans.result ≡ spans_of input.0 = search rules in
    let reported = subst (λ d. Reports h r.reads input.1 d (stuck 0) err no_commands) around
    (subst (λ f. Reports h r.reads f c.delim_span-spans.result (stuck 0) err no_commands) same c.in_ok-err.ensures) in
    let law = g.met.G.FragmentGrammar.lawful c.args.call.now.grammar.now in
    let fails = recover_other_start h site input r law c.requires.checked c.requires.otherwise
    err env reported c.new-bound.ensures in
    both_ok c.expand_with_error.result (λ x. errors_of x.err ≡ Some err)
    (λ x. IsPartialExpansion h marks site env r.writes (top_group x.value.0))
    (λ x. IsRecovered h site input marks r (top_group x.value.0) (errors_of x.err))
    (λ x is left. record { error = err; env = env; reported = is; fails = inl fails; left = left })
    c.expand_with_error.ensures.err c.expand_with_error.ensures.left
