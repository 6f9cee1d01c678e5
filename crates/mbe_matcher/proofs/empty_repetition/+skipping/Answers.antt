use Rattle.std.proofs.Common.{◌≡◌, ◌+◌, ap, ◌∙◌, arith, rules, length}
use Rattle.mbe_semantics.specs.Matching.States.{state_count}
use Rattle.mbe_ops.specs.Views.{op_of, ops_of}
use Rattle.mbe_ops.proofs.EqualityLemmas.{op_weight, ops_weight}
use Rattle.mbe_ops.proofs.OpViews.{view-open, view-open_repeat, view-subtree, view-repeat}
use Rattle.mbe_matcher.proofs.SkipLemmas.{none_of, skips_none, skips_one, skips_plain, skips_all}
use Rattle.mbe_matcher.proofs.empty_repetition.+skipping.Goals as goal

pub skip_op-skip_ops-requires : goal.skip_op-skip_ops-requires
skip_op-skip_ops-requires g t c κs within =
    let here = c.in-Subtree in
    let seen = ap op_weight (ap op_of here.is ∙ view-open here.tokens _) in
    let inside = ap (λ xs. ops_weight (ops_of xs)) c.deref.ensures.value in
    (omega (arith, c.decreases, seen, inside), (within, c.requires))

pub skip_op-skip_ops-requires-in-Repeat : goal.skip_op-skip_ops-requires-in-Repeat
skip_op-skip_ops-requires-in-Repeat g t c κs within =
    let here = c.in-Repeat in
    let seen = ap op_weight (ap op_of here.is ∙ view-open_repeat here.tokens _ _) in
    let inside = ap (λ xs. ops_weight (ops_of xs)) c.deref-in-Repeat.ensures.value in
    (omega (arith, c.decreases, seen, inside), (within, c.requires))

pub skip_op-returns-in-Subtree-clause-names : goal.skip_op-returns-in-Subtree-clause-names
skip_op-returns-in-Subtree-clause-names g t c = rw (c.in-Subtree.is, view-subtree)
    (rw c.deref.ensures.value at c.skip_ops.ensures.names)

pub skip_op-returns-in-Subtree-clause-state_count : goal.skip_op-returns-in-Subtree-clause-state_count
skip_op-returns-in-Subtree-clause-state_count g t c = rw (c.in-Subtree.is, view-subtree)
    (rw c.deref.ensures.value at c.skip_ops.ensures.state_count)

pub skip_op-returns-in-Repeat-clause-names : goal.skip_op-returns-in-Repeat-clause-names
skip_op-returns-in-Repeat-clause-names g t c = rw (c.in-Repeat.is, view-repeat)
    (rw c.deref-in-Repeat.ensures.value at c.skip_ops-in-Repeat.ensures.names)

pub skip_op-returns-in-Repeat-clause-state_count : goal.skip_op-returns-in-Repeat-clause-state_count
skip_op-returns-in-Repeat-clause-state_count g t c = rw (c.in-Repeat.is, view-repeat)
    (rw c.deref-in-Repeat.ensures.value at c.skip_ops-in-Repeat.ensures.state_count)

pub skip_ops-ops-init : goal.skip_ops-ops-init
skip_ops-ops-init g t c = record {
  entries = c.requires;
  lighter = omega arith;
  so_far = skips_none _ _ _ c.requires;
  counted = search rules;
}

pub skip_ops-skip_op-requires : goal.skip_ops-skip_op-requires
skip_ops-skip_op-requires g t c κs within =
    let here = ap ops_of c.in-Some.ensures.cases.0 in
    let weight = ap ops_weight here in
    (omega (arith, c.decreases, weight, c.ops.invariant.lighter), (within, c.ops.invariant.entries))

pub skip_ops-ops-smaller : goal.skip_ops-ops-smaller
skip_ops-ops-smaller g t c = let k = ap length c.in-Some.ensures.cases.0 in omega (arith, k)

pub skip_ops-ops-smaller-in_ok-count-2 : goal.skip_ops-ops-smaller-in_ok-count-2
skip_ops-ops-smaller-in_ok-count-2 g t c = let k = ap length c.in-Some.ensures.cases.0 in omega (arith, k)

pub skip_ops-ops-preserved-in_ok-count-2 : goal.skip_ops-ops-preserved-in_ok-count-2
skip_ops-ops-preserved-in_ok-count-2 g t c =
    let here = ap ops_of c.in-Some.ensures.cases.0 in
    let long = ap length c.in-Some.ensures.cases.0 in
    let weight = ap ops_weight here in
    let counted = ap state_count here in
    let before = c.ops.invariant in
    let more = skips_one _ _ _ _ _ _ _ _ (ops_of c.in-Some.rest.now) (op_of c.in-Some.op.now) here before.so_far
    c.in_ok-inside.ensures.names in
    let sum : c.in_ok-count-2.count ≡ c.ops.count + c.in_ok-inside.inside = search rules in
    record {
      entries = more.entries;
      lighter = omega (arith, weight, before.lighter);
      so_far = more;
      counted = omega (arith, long, counted, before.counted, c.in_ok-inside.ensures.state_count, sum);
    }

pub skip_ops-ops-preserved : goal.skip_ops-ops-preserved
skip_ops-ops-preserved g t c =
    let here = ap ops_of c.in-Some.ensures.cases.0 in
    let long = ap length c.in-Some.ensures.cases.0 in
    let weight = ap ops_weight here in
    let counted = ap state_count here in
    let before = c.ops.invariant in
    let leaf = c.is_leaf.ensures c.if-not-is_leaf.false in
    let so_far = skips_plain _ _ _ _ _ _ (ops_of c.in-Some.rest.now) (op_of c.in-Some.op.now) here leaf.0
    before.so_far in
    record {
      entries = before.entries;
      lighter = omega (arith, weight, before.lighter);
      so_far = so_far;
      counted = omega (arith, long, counted, before.counted, leaf.1);
    }

pub skip_ops-returns-clause-names : goal.skip_ops-returns-clause-names
skip_ops-returns-clause-names g t c =
    let none = none_of c.ops.left.now (rw c.in_default.is at c.split_first.ensures.cases) in
    skips_all _ _ _ _ _ _ (ap ops_of none) c.ops.invariant.so_far

pub skip_ops-returns-clause-state_count : goal.skip_ops-returns-clause-state_count
skip_ops-returns-clause-state_count g t c =
    let none = none_of c.ops.left.now (rw c.in_default.is at c.split_first.ensures.cases) in
    let last = ap (λ xs. state_count (ops_of xs)) none in
    let long = ap length none in
    omega (arith, last, long, c.ops.invariant.counted)
