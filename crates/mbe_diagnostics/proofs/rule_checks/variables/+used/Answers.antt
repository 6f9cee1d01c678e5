use Rattle.std.proofs.Common.{◌∙◌, ap, length, refl, arith}
use Rattle.std.proofs.lemmas.Result.{err_from_is_err_and}
use Rattle.mbe_ops.specs.Views.{op_of, ops_of}
use Rattle.mbe_ops.proofs.EqualityLemmas.{op_weight, ops_weight}
use Rattle.mbe_ops.proofs.OpViews.{view-open, view-open_repeat, view-subtree, view-repeat}
use Rattle.mbe_diagnostics.specs.RuleChecks.Variables.{uses_in, uses_in_op}
use Rattle.mbe_diagnostics.proofs.RuleLemmas.Loops.{one_op_more, all_added, nothing, first_lighter, rest_lighter}
use Rattle.mbe_diagnostics.proofs.rule_checks.variables.+used.Goals as goal

pub push_used-push_used_op-requires : goal.push_used-push_used_op-requires
push_used-push_used_op-requires g t c κs within =
    let lighter =
    first_lighter c.ops.rest.now c.in-Some.others.now c.in-Some.op.now _ c.in-Some.ensures.cases.0
    c.ops.invariant.lighter in
    (omega (arith, c.decreases, lighter), within)

pub push_used_op-push_used-requires : goal.push_used_op-push_used-requires
push_used_op-push_used-requires g t c κs within =
    let here = c.in-Subtree in
    let seen = ap op_weight (ap op_of here.is ∙ view-open here.tokens _) in
    let inside = ap (λ xs. ops_weight (ops_of xs)) c.deref.ensures.value in
    (omega (arith, c.decreases, seen, inside), within)

pub push_used_op-push_used-requires-in-Repeat : goal.push_used_op-push_used-requires-in-Repeat
push_used_op-push_used-requires-in-Repeat g t c κs within =
    let here = c.in-Repeat in
    let seen = ap op_weight (ap op_of here.is ∙ view-open_repeat here.tokens _ _) in
    let inside = ap (λ xs. ops_weight (ops_of xs)) c.deref-in-Repeat.ensures.value in
    (omega (arith, c.decreases, seen, inside), within)

pub push_used-ops-preserved : goal.push_used-ops-preserved
push_used-ops-preserved g t c = record {
  added = one_op_more (uses_in c.args.depth) (uses_in_op c.args.depth) (λ o os. refl) _ _ _ c.ops.rest.now
      c.in-Some.others.now c.in-Some.op.now
      c.in-Some.ensures.cases.0 c.in_ok-push_used_op.ensures c.ops.invariant.added;
  lighter =
      rest_lighter c.ops.rest.now c.in-Some.others.now c.in-Some.op.now _ c.in-Some.ensures.cases.0
      c.ops.invariant.lighter;
}

pub push_used_op-returns-in-Subtree : goal.push_used_op-returns-in-Subtree
push_used_op-returns-in-Subtree g t c =
    rw (c.in-Subtree.is, view-subtree) (rw c.deref.ensures.value at c.push_used.ensures)

pub push_used_op-returns-in_ok-deeper-in-Repeat : goal.push_used_op-returns-in_ok-deeper-in-Repeat
push_used_op-returns-in_ok-deeper-in-Repeat g t c =
    rw (c.in-Repeat.is, view-repeat)
    (rw (c.deref-in-Repeat.ensures.value, c.in_ok-deeper-in-Repeat.ensures) at c.push_used-in-Repeat.ensures)

pub push_used-ops-smaller : goal.push_used-ops-smaller
push_used-ops-smaller g t c = let fewer = ap (λ xs. length xs) c.in-Some.ensures.cases.0 in omega (arith, fewer)

pub push_used-returns-in_err-push_used_op : goal.push_used-returns-in_err-push_used_op
push_used-returns-in_err-push_used_op g t c =
    let p = err_from_is_err_and c.from_residual.result c.from_residual.ensures.1 in rw p.1 tt

pub push_used-returns : goal.push_used-returns
push_used-returns g t c =
    all_added (uses_in c.args.depth) refl _ _ c.ops.rest.now (nothing _ c.in_default.ensures.cases)
    c.ops.invariant.added
