use Rattle.std.proofs.Common.{◌∙◌, ap, length, refl, sym, arith}
use Rattle.std.specs.Prelude.{option_map}
use Rattle.std.proofs.lemmas.Result.{err_from_is_err_and}
use Rattle.mbe_ops.specs.Views.{op_of, ops_of, separator_seen}
use Rattle.mbe_ops.proofs.EqualityLemmas.{op_weight, ops_weight}
use Rattle.mbe_ops.proofs.OpViews.{view-open_repeat}
use Rattle.mbe_diagnostics.specs.RuleChecks.FollowCheck.{firsts, may_be_empty}
use Rattle.mbe_diagnostics.proofs.RuleLemmas.Loops.{all_added, nothing, first_lighter, rounds_firsts, rounds_empty}
use Rattle.mbe_diagnostics.proofs.rule_checks.follow_check.+firsts.Goals as goal

pub push_firsts-push_firsts_of_op-requires : goal.push_firsts-push_firsts_of_op-requires
push_firsts-push_firsts_of_op-requires g t c κs within =
    let lighter =
    first_lighter c.ops.rest.now c.in-Some.others.now c.in-Some.op.now _ c.in-Some.ensures.cases.0
    c.ops.invariant.lighter in
    (omega (arith, c.decreases, lighter), within)

pub push_firsts_of_op-push_firsts-requires : goal.push_firsts_of_op-push_firsts-requires
push_firsts_of_op-push_firsts-requires g t c κs within =
    let here = c.in-Repeat in
    let seen = ap op_weight (ap op_of here.is ∙ view-open_repeat here.tokens here.kind here.separator) in
    let inside = ap (λ xs. ops_weight (ops_of xs)) c.deref.ensures.value in
    (omega (arith, c.decreases, seen, inside), within)

pub push_firsts_of_op-returns-in_ok-push_separator_if-in-Repeat-clause-empty :
    goal.push_firsts_of_op-returns-in_ok-push_separator_if-in-Repeat-clause-empty
push_firsts_of_op-returns-in_ok-push_separator_if-in-Repeat-clause-empty g t c =
    let here = c.in-Repeat in
    let seen = ap op_of here.is ∙ view-open_repeat here.tokens here.kind here.separator in
    rounds_empty _ (ops_of here.tokens.0.items) (ops_of c.deref.result.now) (option_map separator_seen here.separator)
    here.kind
    _ _ seen (ap ops_of c.deref.ensures.value) c.in_ok-body-in-Repeat.ensures.empty c.may_skip.ensures

pub push_firsts_of_op-returns-in_ok-push_separator_if-in-Repeat-clause-next :
    goal.push_firsts_of_op-returns-in_ok-push_separator_if-in-Repeat-clause-next
push_firsts_of_op-returns-in_ok-push_separator_if-in-Repeat-clause-next g t c =
    let here = c.in-Repeat in
    let seen = ap op_of here.is ∙ view-open_repeat here.tokens here.kind here.separator in
    rounds_firsts _ (ops_of here.tokens.0.items) (ops_of c.deref.result.now) (option_map separator_seen here.separator)
    here.kind
    _ _ _ _ seen (ap ops_of c.deref.ensures.value) c.in_ok-body-in-Repeat.ensures.empty
    c.in_ok-body-in-Repeat.ensures.next
    c.in_ok-push_separator_if-in-Repeat.ensures

pub push_firsts-ops-smaller : goal.push_firsts-ops-smaller
push_firsts-ops-smaller g t c = let fewer = ap (λ xs. length xs) c.in-Some.ensures.cases.0 in omega (arith, fewer)

pub push_firsts-returns-clause-empty : goal.push_firsts-returns-clause-empty
push_firsts-returns-clause-empty g t c =
    let none = nothing _ c.in_default.ensures.cases in
    sym (c.ops.invariant.empty ∙ ap (λ xs. may_be_empty (ops_of xs)) none)

pub push_firsts-returns-clause-next : goal.push_firsts-returns-clause-next
push_firsts-returns-clause-next g t c =
    all_added firsts refl _ _ c.ops.rest.now (nothing _ c.in_default.ensures.cases) c.ops.invariant.added

pub push_firsts-returns-in_err-push_firsts_of_op-clause-next :
    goal.push_firsts-returns-in_err-push_firsts_of_op-clause-next
push_firsts-returns-in_err-push_firsts_of_op-clause-next g t c =
    let p = err_from_is_err_and c.from_residual.result c.from_residual.ensures.1 in rw p.1 tt

pub push_firsts_of_op-returns-in_err-body-in-Repeat-clause-empty :
    goal.push_firsts_of_op-returns-in_err-body-in-Repeat-clause-empty
push_firsts_of_op-returns-in_err-body-in-Repeat-clause-empty g t c =
    let p = err_from_is_err_and c.from_residual.result c.from_residual.ensures.1 in rw p.1 tt

pub push_firsts_of_op-returns-in_err-body-in-Repeat-clause-next :
    goal.push_firsts_of_op-returns-in_err-body-in-Repeat-clause-next
push_firsts_of_op-returns-in_err-body-in-Repeat-clause-next g t c =
    let p = err_from_is_err_and c.from_residual.result c.from_residual.ensures.1 in rw p.1 tt

pub push_firsts_of_op-returns-in_err-push_separator_if-in-Repeat-clause-empty :
    goal.push_firsts_of_op-returns-in_err-push_separator_if-in-Repeat-clause-empty
push_firsts_of_op-returns-in_err-push_separator_if-in-Repeat-clause-empty g t c =
    let step = c.from_residual-in_err-push_separator_if-in-Repeat in
    let p = err_from_is_err_and step.result step.ensures.1 in
    rw p.1 tt

pub push_firsts_of_op-returns-in_err-push_separator_if-in-Repeat-clause-next :
    goal.push_firsts_of_op-returns-in_err-push_separator_if-in-Repeat-clause-next
push_firsts_of_op-returns-in_err-push_separator_if-in-Repeat-clause-next g t c =
    let step = c.from_residual-in_err-push_separator_if-in-Repeat in
    let p = err_from_is_err_and step.result step.ensures.1 in
    rw p.1 tt
