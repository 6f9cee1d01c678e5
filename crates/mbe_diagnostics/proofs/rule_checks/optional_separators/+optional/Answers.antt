use Rattle.std.proofs.Common.{◌∙◌, ap, length, refl, arith}
use Rattle.std.proofs.lemmas.Result.{err_from_is_err_and, on_ok_weaker}
use Rattle.std.specs.Prelude.{option_map}
use Rattle.mbe_ops.specs.Views.{op_of, ops_of, separator_seen}
use Rattle.mbe_ops.proofs.EqualityLemmas.{op_weight, ops_weight}
use Rattle.mbe_ops.proofs.OpViews.{view-open, view-open_repeat, view-subtree}
use Rattle.mbe_diagnostics.specs.RuleChecks.OptionalSeparators.{optional_separators, optional_separators_op}
use Rattle.mbe_diagnostics.proofs.RuleLemmas.Optional.{optional_added}
use Rattle.mbe_diagnostics.proofs.RuleLemmas.Loops.{one_op_more, all_added, nothing, first_lighter, rest_lighter}
use Rattle.mbe_diagnostics.proofs.rule_checks.optional_separators.+optional.Goals as goal

pub push_optional-push_optional_op-requires : goal.push_optional-push_optional_op-requires
push_optional-push_optional_op-requires g t c κs within =
    let lighter =
    first_lighter c.ops.rest.now c.in-Some.others.now c.in-Some.op.now _ c.in-Some.ensures.cases.0
    c.ops.invariant.lighter in
    (omega (arith, c.decreases, lighter), within)

pub push_optional_op-push_optional-requires : goal.push_optional_op-push_optional-requires
push_optional_op-push_optional-requires g t c κs within =
    let here = c.in-Subtree in
    let seen = ap op_weight (ap op_of here.is ∙ view-open here.tokens _) in
    let inside = ap (λ xs. ops_weight (ops_of xs)) c.deref.ensures.value in
    (omega (arith, c.decreases, seen, inside), within)

pub push_optional_op-push_optional-requires-in-Repeat : goal.push_optional_op-push_optional-requires-in-Repeat
push_optional_op-push_optional-requires-in-Repeat g t c κs within =
    let here = c.in-Repeat in
    let seen = ap op_weight (ap op_of here.is ∙ view-open_repeat here.tokens _ _) in
    let inside = ap (λ xs. ops_weight (ops_of xs)) c.deref-in-Repeat.ensures.value in
    (omega (arith, c.decreases, seen, inside), within)

pub push_optional-ops-preserved : goal.push_optional-ops-preserved
push_optional-ops-preserved g t c = record {
  added = one_op_more optional_separators optional_separators_op (λ o os. refl) _ _ _ c.ops.rest.now
      c.in-Some.others.now c.in-Some.op.now
      c.in-Some.ensures.cases.0 c.in_ok-push_optional_op.ensures c.ops.invariant.added;
  lighter =
      rest_lighter c.ops.rest.now c.in-Some.others.now c.in-Some.op.now _ c.in-Some.ensures.cases.0
      c.ops.invariant.lighter;
}

pub push_optional_op-returns-in-Subtree : goal.push_optional_op-returns-in-Subtree
push_optional_op-returns-in-Subtree g t c =
    rw (c.in-Subtree.is, view-subtree) (rw c.deref.ensures.value at c.push_optional.ensures)

pub push_optional_op-returns-in_ok-push_if_optional-in-Repeat :
    goal.push_optional_op-returns-in_ok-push_if_optional-in-Repeat
push_optional_op-returns-in_ok-push_if_optional-in-Repeat g t c =
    let here = c.in-Repeat in
    let seen = ap op_of here.is ∙ view-open_repeat here.tokens here.kind here.separator in
    let step = optional_added _ (ops_of here.tokens.0.items) (ops_of c.deref-in-Repeat.result.now)
    (option_map separator_seen here.separator) here.kind _ _ seen (ap ops_of c.deref-in-Repeat.ensures.value)
    c.in_ok-push_if_optional-in-Repeat.ensures in
    on_ok_weaker c.push_optional-in-Repeat.result (λ h. h ∙ step) c.push_optional-in-Repeat.ensures

pub push_optional-ops-smaller : goal.push_optional-ops-smaller
push_optional-ops-smaller g t c = let fewer = ap (λ xs. length xs) c.in-Some.ensures.cases.0 in omega (arith, fewer)

pub push_optional-returns-in_err-push_optional_op : goal.push_optional-returns-in_err-push_optional_op
push_optional-returns-in_err-push_optional_op g t c =
    let p = err_from_is_err_and c.from_residual.result c.from_residual.ensures.1 in rw p.1 tt

pub push_optional-returns : goal.push_optional-returns
push_optional-returns g t c =
    all_added optional_separators refl _ _ c.ops.rest.now (nothing _ c.in_default.ensures.cases)
    c.ops.invariant.added
