use Rattle.std.proofs.Common.{◌∙◌, ap, length, refl, arith}
use Rattle.std.proofs.lemmas.Result.{err_from_is_err_and}
use Rattle.mbe_ops.specs.Views.{op_of, ops_of}
use Rattle.mbe_ops.proofs.EqualityLemmas.{op_weight, ops_weight}
use Rattle.mbe_ops.proofs.OpViews.{view-open, view-open_repeat, view-subtree, view-repeat}
use Rattle.mbe_diagnostics.specs.RuleChecks.Variables.{variables_in, variables_in_op}
use Rattle.mbe_diagnostics.proofs.RuleLemmas.Loops.{one_op_more, all_added, nothing, first_lighter, rest_lighter}
use Rattle.mbe_diagnostics.proofs.rule_checks.variables.+bound.Goals as goal

pub push_bound-push_bound_op-requires : goal.push_bound-push_bound_op-requires
push_bound-push_bound_op-requires g t c κs within =
    let lighter =
    first_lighter c.ops.rest.now c.in-Some.others.now c.in-Some.op.now _ c.in-Some.ensures.cases.0
    c.ops.invariant.lighter in
    (omega (arith, c.decreases, lighter), within)

pub push_bound_op-push_bound-requires : goal.push_bound_op-push_bound-requires
push_bound_op-push_bound-requires g t c κs within =
    let here = c.in-Subtree in
    let seen = ap op_weight (ap op_of here.is ∙ view-open here.tokens _) in
    let inside = ap (λ xs. ops_weight (ops_of xs)) c.deref.ensures.value in
    (omega (arith, c.decreases, seen, inside), within)

pub push_bound_op-push_bound-requires-in-Repeat : goal.push_bound_op-push_bound-requires-in-Repeat
push_bound_op-push_bound-requires-in-Repeat g t c κs within =
    let here = c.in-Repeat in
    let seen = ap op_weight (ap op_of here.is ∙ view-open_repeat here.tokens _ _) in
    let inside = ap (λ xs. ops_weight (ops_of xs)) c.deref-in-Repeat.ensures.value in
    (omega (arith, c.decreases, seen, inside), within)

pub push_bound-ops-preserved : goal.push_bound-ops-preserved
push_bound-ops-preserved g t c = record {
  added = one_op_more (variables_in c.args.depth) (variables_in_op c.args.depth) (λ o os. refl) _ _ _ c.ops.rest.now
      c.in-Some.others.now c.in-Some.op.now
      c.in-Some.ensures.cases.0 c.in_ok-push_bound_op.ensures c.ops.invariant.added;
  lighter =
      rest_lighter c.ops.rest.now c.in-Some.others.now c.in-Some.op.now _ c.in-Some.ensures.cases.0
      c.ops.invariant.lighter;
}

pub push_bound_op-returns-in-Subtree : goal.push_bound_op-returns-in-Subtree
push_bound_op-returns-in-Subtree g t c =
    rw (c.in-Subtree.is, view-subtree) (rw c.deref.ensures.value at c.push_bound.ensures)

pub push_bound_op-returns-in_ok-deeper-in-Repeat : goal.push_bound_op-returns-in_ok-deeper-in-Repeat
push_bound_op-returns-in_ok-deeper-in-Repeat g t c =
    rw (c.in-Repeat.is, view-repeat)
    (rw (c.deref-in-Repeat.ensures.value, c.in_ok-deeper-in-Repeat.ensures) at c.push_bound-in-Repeat.ensures)

pub push_bound-ops-smaller : goal.push_bound-ops-smaller
push_bound-ops-smaller g t c = let fewer = ap (λ xs. length xs) c.in-Some.ensures.cases.0 in omega (arith, fewer)

pub push_bound-returns-in_err-push_bound_op : goal.push_bound-returns-in_err-push_bound_op
push_bound-returns-in_err-push_bound_op g t c =
    let p = err_from_is_err_and c.from_residual.result c.from_residual.ensures.1 in rw p.1 tt

pub push_bound-returns : goal.push_bound-returns
push_bound-returns g t c =
    all_added (variables_in c.args.depth) refl _ _ c.ops.rest.now (nothing _ c.in_default.ensures.cases)
    c.ops.invariant.added
