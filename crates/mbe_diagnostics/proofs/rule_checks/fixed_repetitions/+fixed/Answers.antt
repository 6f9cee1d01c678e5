use Rattle.std.proofs.Common.{◌≡◌, ◌∙◌, ap, length, map, true, false, refl, rules, arith}
use Rattle.std.specs.Prelude.{option_map}
use Rattle.std.proofs.lemmas.Result.{err_from_is_err_and, on_ok_weaker}
use Rattle.mbe_ops.specs.Views.{op_of, ops_of, separator_seen}
use Rattle.mbe_ops.proofs.EqualityLemmas.{op_weight, ops_weight}
use Rattle.mbe_ops.proofs.OpViews.{view-open, view-open_repeat, view-subtree, view-repeat}
use Rattle.mbe_diagnostics.specs.RuleChecks.Variables.{variable_seen}
use Rattle.mbe_diagnostics.specs.RuleChecks.FixedRepetitions.{fixed_in, fixed_in_op}
use Rattle.mbe_diagnostics.proofs.RuleLemmas.Fixed.{fixed_here, fixed_inside}
use Rattle.mbe_diagnostics.proofs.RuleLemmas.Loops.{one_op_more, all_added, nothing, first_lighter, rest_lighter}
use Rattle.mbe_diagnostics.proofs.rule_checks.fixed_repetitions.+fixed.Goals as goal

pub push_fixed-push_fixed_op-requires : goal.push_fixed-push_fixed_op-requires
push_fixed-push_fixed_op-requires g t c κs within =
    let lighter =
    first_lighter c.ops.rest.now c.in-Some.others.now c.in-Some.op.now _ c.in-Some.ensures.cases.0
    c.ops.invariant.lighter in
    (omega (arith, c.decreases, lighter), within)

pub push_fixed_op-push_fixed-requires : goal.push_fixed_op-push_fixed-requires
push_fixed_op-push_fixed-requires g t c κs within =
    let here = c.in-Subtree in
    let seen = ap op_weight (ap op_of here.is ∙ view-open here.tokens _) in
    let inside = ap (λ xs. ops_weight (ops_of xs)) c.deref.ensures.value in
    (omega (arith, c.decreases, seen, inside), within)

pub push_fixed_op-push_fixed-requires-in-Repeat : goal.push_fixed_op-push_fixed-requires-in-Repeat
push_fixed_op-push_fixed-requires-in-Repeat g t c κs within =
    let here = c.in-Repeat in
    let seen = ap op_weight (ap op_of here.is ∙ view-open_repeat here.tokens _ _) in
    let inside = ap (λ xs. ops_weight (ops_of xs)) c.deref-in-Repeat-2.ensures.value in
    (omega (arith, c.decreases, seen, inside), within)

pub push_fixed-ops-preserved : goal.push_fixed-ops-preserved
push_fixed-ops-preserved g t c = record {
  added = one_op_more (fixed_in (map variable_seen c.args.bound.now) c.args.depth)
      (fixed_in_op (map variable_seen c.args.bound.now) c.args.depth) (λ o os. refl) _ _ _ c.ops.rest.now
      c.in-Some.others.now c.in-Some.op.now
      c.in-Some.ensures.cases.0 c.in_ok-push_fixed_op.ensures c.ops.invariant.added;
  lighter =
      rest_lighter c.ops.rest.now c.in-Some.others.now c.in-Some.op.now _ c.in-Some.ensures.cases.0
      c.ops.invariant.lighter;
}

pub push_fixed_op-returns-in-Subtree : goal.push_fixed_op-returns-in-Subtree
push_fixed_op-returns-in-Subtree g t c =
    rw (c.in-Subtree.is, view-subtree) (rw c.deref.ensures.value at c.push_fixed.ensures)

pub push_fixed_op-returns-then-not-round : goal.push_fixed_op-returns-then-not-round
push_fixed_op-returns-then-not-round g t c =
    let here = c.in-Repeat in
    let seen = ap op_of here.is ∙ view-open_repeat here.tokens here.kind here.separator in
    let fails : c.in_ok-round-in-Repeat.round ≡ false = search rules in
    let step = fixed_here (map variable_seen c.args.bound.now) c.args.depth _ (ops_of here.tokens.0.items) _
    (option_map separator_seen here.separator) here.kind c.in_ok-round-in-Repeat.round _ seen
    (ap ops_of c.deref-in-Repeat.ensures.value) c.in_ok-round-in-Repeat.ensures fails _
    (ap ops_of c.deref-then-not-round.ensures.value) in
    on_ok_weaker c.push_one.result (λ h. h ∙ step) c.push_one.ensures

pub push_fixed_op-returns-in_ok-deeper-in-Repeat : goal.push_fixed_op-returns-in_ok-deeper-in-Repeat
push_fixed_op-returns-in_ok-deeper-in-Repeat g t c =
    let here = c.in-Repeat in
    let seen = ap op_of here.is ∙ view-open_repeat here.tokens here.kind here.separator in
    let holds : c.in_ok-round-in-Repeat.round ≡ true = search rules in
    let step = fixed_inside (map variable_seen c.args.bound.now) c.args.depth _ (ops_of here.tokens.0.items) _
    (option_map separator_seen here.separator) here.kind c.in_ok-round-in-Repeat.round _ seen
    (ap ops_of c.deref-in-Repeat.ensures.value) c.in_ok-round-in-Repeat.ensures holds
    c.in_ok-deeper-in-Repeat.deeper _ c.in_ok-deeper-in-Repeat.ensures (ap ops_of c.deref-in-Repeat-2.ensures.value) in
    on_ok_weaker c.push_fixed-in-Repeat.result (λ h. h ∙ step) c.push_fixed-in-Repeat.ensures

pub push_fixed-ops-smaller : goal.push_fixed-ops-smaller
push_fixed-ops-smaller g t c = let fewer = ap (λ xs. length xs) c.in-Some.ensures.cases.0 in omega (arith, fewer)

pub push_fixed-returns-in_err-push_fixed_op : goal.push_fixed-returns-in_err-push_fixed_op
push_fixed-returns-in_err-push_fixed_op g t c =
    let p = err_from_is_err_and c.from_residual.result c.from_residual.ensures.1 in rw p.1 tt

pub push_fixed-returns : goal.push_fixed-returns
push_fixed-returns g t c =
    all_added (fixed_in (map variable_seen c.args.bound.now) c.args.depth) refl _ _ c.ops.rest.now
    (nothing _ c.in_default.ensures.cases)
    c.ops.invariant.added
