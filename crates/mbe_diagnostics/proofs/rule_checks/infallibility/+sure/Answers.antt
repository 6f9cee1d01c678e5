use Rattle.std.proofs.Common.{◌≡◌, ◌∙◌, ap, map, true, false, rules}
use Rattle.std.specs.Prelude.{option_map}
use Rattle.std.proofs.lemmas.Result.{IfOk-weaker}
use Rattle.mbe_ops.specs.Views.{op_of, ops_of, separator_seen}
use Rattle.mbe_ops.proofs.OpViews.{view-subtree, view-open_repeat}
use Rattle.mbe_diagnostics.specs.RuleChecks.Variables.{variable_seen}
use Rattle.mbe_diagnostics.proofs.RuleLemmas.Infallible.{sure_first, sure_round, unsure_round}
use Rattle.mbe_diagnostics.proofs.rule_checks.infallibility.+sure.Goals as goal

pub are_infallible-returns : goal.are_infallible-returns
are_infallible-returns g t c =
    let holds : c.in_ok-is_infallible_op.field-0 ≡ true = search rules in
    let bound = map variable_seen c.args.bound.now in
    let step = sure_first bound c.args.depth (op_of c.in-Some.op.now) (ops_of c.args.ops.now)
    (ops_of c.in-Some.rest.now)
    c.in_ok-is_infallible_op.field-0 (ap ops_of c.in-Some.ensures.cases.0) c.in_ok-is_infallible_op.ensures holds in
    IfOk-weaker c.are_infallible.result _ _ (λ sure h. h ∙ step) c.are_infallible.ensures

pub is_infallible_op-returns-then-not-repeats_with_variable :
    goal.is_infallible_op-returns-then-not-repeats_with_variable
is_infallible_op-returns-then-not-repeats_with_variable g t c =
    let here = c.in-Repeat in
    let seen = ap op_of here.is ∙ view-open_repeat here.tokens here.kind here.separator in
    let fails : c.repeats_with_variable.result ≡ false = search rules in
    unsure_round (map variable_seen c.args.bound.now) c.args.depth _ (ops_of here.tokens.0.items) _
    (option_map separator_seen here.separator) here.kind c.repeats_with_variable.result seen
    (ap ops_of c.deref-in-Repeat.ensures.value) c.repeats_with_variable.ensures fails

pub is_infallible_op-returns-in-Subtree : goal.is_infallible_op-returns-in-Subtree
is_infallible_op-returns-in-Subtree g t c =
    rw (c.in-Subtree.is, view-subtree) (rw c.deref.ensures.value at c.are_infallible.ensures)

pub is_infallible_op-returns-in_ok-deeper-in-Repeat : goal.is_infallible_op-returns-in_ok-deeper-in-Repeat
is_infallible_op-returns-in_ok-deeper-in-Repeat g t c =
    let here = c.in-Repeat in
    let seen = ap op_of here.is ∙ view-open_repeat here.tokens here.kind here.separator in
    let holds : c.repeats_with_variable.result ≡ true = search rules in
    let step = sure_round (map variable_seen c.args.bound.now) c.args.depth _ (ops_of here.tokens.0.items) _
    (option_map separator_seen here.separator) here.kind c.repeats_with_variable.result seen
    (ap ops_of c.deref-in-Repeat.ensures.value) c.repeats_with_variable.ensures holds
    c.in_ok-deeper-in-Repeat.deeper _ c.in_ok-deeper-in-Repeat.ensures (ap ops_of c.deref-in-Repeat-2.ensures.value) in
    IfOk-weaker c.are_infallible-in-Repeat.result _ _ (λ sure h. h ∙ step) c.are_infallible-in-Repeat.ensures
