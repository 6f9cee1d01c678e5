use Rattle.std.proofs.Common.{◌∙◌, ap, length, map, refl, arith}
use Rattle.std.proofs.lemmas.Result.{err_from_is_err_and}
use Rattle.mbe_ops.specs.Views.{op_of, ops_of}
use Rattle.mbe_ops.proofs.EqualityLemmas.{op_weight, ops_weight}
use Rattle.mbe_ops.proofs.OpViews.{view-open, view-subtree, view-repeat}
use Rattle.mbe_diagnostics.specs.RuleChecks.FollowCheck.{forbidden_in, follower_seen}
use Rattle.mbe_diagnostics.proofs.RuleLemmas.Loops.{all_added, nothing, first_lighter}
use Rattle.mbe_diagnostics.proofs.rule_checks.follow_check.+forbidden.Goals as goal

pub push_forbidden-push_forbidden_in_op-requires : goal.push_forbidden-push_forbidden_in_op-requires
push_forbidden-push_forbidden_in_op-requires g t c κs within =
    let lighter =
    first_lighter c.ops.rest.now c.in-Some.others.now c.in-Some.op.now _ c.in-Some.ensures.cases.0
    c.ops.invariant.lighter in
    (omega (arith, c.decreases, lighter), within)

pub push_forbidden_in_op-push_forbidden-requires : goal.push_forbidden_in_op-push_forbidden-requires
push_forbidden_in_op-push_forbidden-requires g t c κs within =
    let here = c.in-Subtree in
    let seen = ap op_weight (ap op_of here.is ∙ view-open here.tokens _) in
    let inside = ap (λ xs. ops_weight (ops_of xs)) c.deref.ensures.value in
    (omega (arith, c.decreases, seen, inside), within)

pub push_forbidden_in_op-returns-in-Subtree : goal.push_forbidden_in_op-returns-in-Subtree
push_forbidden_in_op-returns-in-Subtree g t c =
    rw (c.in-Subtree.is, view-subtree) (rw c.deref.ensures.value at c.push_forbidden.ensures)

pub push_forbidden_in_op-returns-in_ok-after-in-Repeat : goal.push_forbidden_in_op-returns-in_ok-after-in-Repeat
push_forbidden_in_op-returns-in_ok-after-in-Repeat g t c =
    rw (c.in-Repeat.is, view-repeat)
    (rw (c.as_slice.ensures.value, c.deref-in-Repeat.ensures.value, c.in_ok-after-in-Repeat.ensures)
    at c.push_forbidden-in-Repeat.ensures)

pub push_forbidden-ops-smaller : goal.push_forbidden-ops-smaller
push_forbidden-ops-smaller g t c = let fewer = ap (λ xs. length xs) c.in-Some.ensures.cases.0 in omega (arith, fewer)

pub push_forbidden-returns : goal.push_forbidden-returns
push_forbidden-returns g t c =
    all_added (forbidden_in (map follower_seen c.args.after.now)) refl _ _ c.ops.rest.now
    (nothing _ c.in_default.ensures.cases) c.ops.invariant.added

pub push_forbidden-returns-in_err-next : goal.push_forbidden-returns-in_err-next
push_forbidden-returns-in_err-next g t c =
    let p = err_from_is_err_and c.from_residual.result c.from_residual.ensures.1 in rw p.1 tt

pub push_forbidden-returns-in_err-push_forbidden_in_op : goal.push_forbidden-returns-in_err-push_forbidden_in_op
push_forbidden-returns-in_err-push_forbidden_in_op g t c =
    let step = c.from_residual-in_err-push_forbidden_in_op in
    let p = err_from_is_err_and step.result step.ensures.1 in
    rw p.1 tt

pub push_forbidden_in_op-returns-in_err-after-in-Repeat : goal.push_forbidden_in_op-returns-in_err-after-in-Repeat
push_forbidden_in_op-returns-in_err-after-in-Repeat g t c =
    let p = err_from_is_err_and c.from_residual.result c.from_residual.ensures.1 in rw p.1 tt
