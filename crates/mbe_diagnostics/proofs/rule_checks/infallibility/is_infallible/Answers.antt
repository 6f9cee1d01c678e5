use Rattle.std.proofs.Common.{◌≡◌, ◌∙◌, ap, map, true, rules}
use Rattle.std.proofs.lemmas.Result.{IfOk-weaker}
use Rattle.mbe_ops.specs.Views.{ops_of, template_of}
use Rattle.mbe_diagnostics.specs.RuleChecks.Variables.{variable_seen}
use Rattle.mbe_diagnostics.proofs.RuleLemmas.Infallible.{sure_of}
use Rattle.mbe_diagnostics.proofs.rule_checks.infallibility.is_infallible.Goals as goal

pub returns : goal.returns
returns g c =
    let holds : c.are_distinct.result ≡ true = search rules in
    let step = sure_of (template_of c.args.pattern.now) (template_of c.args.template.now) (ops_of c.deref.result.now)
    (map variable_seen c.as_slice.result.now) (map variable_seen c.as_slice-2.result.now) c.are_distinct.result
    (ap (map variable_seen) c.as_slice.ensures.value ∙ c.in_ok-bound.ensures)
    (ap (map variable_seen) c.as_slice-2.ensures.value ∙ c.in_ok-bound.ensures)
    (search rules) c.are_distinct.ensures holds in
    IfOk-weaker c.are_infallible.result _ _ (λ sure h. h ∙ step) c.are_infallible.ensures
