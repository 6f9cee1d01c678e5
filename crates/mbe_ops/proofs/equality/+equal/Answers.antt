use Rattle.std.proofs.Common.{◌∙◌, ap, arith}
use Rattle.mbe_ops.specs.Equality.{AreSameOps}
use Rattle.mbe_ops.specs.Views.{op_of, ops_of, separator_seen}
use Rattle.std.specs.Prelude.{option_map}
use Rattle.mbe_ops.proofs.OpViews.{view-open, view-open_repeat}
use Rattle.mbe_ops.proofs.EqualityLemmas.{op_weight, ops_weight, op_no_heavier, groups_tell, repetitions_tell}
use Rattle.mbe_ops.proofs.EqualityLemmas.{inside_tells, ops_one_by_one, other_differs, one_more, at_the_end}
use Rattle.mbe_ops.proofs.EqualityLemmas.{empty_tells}
use Rattle.mbe_ops.proofs.equality.+equal.Goals as goal

pub same_op-same_ops-requires : goal.same_op-same_ops-requires
same_op-same_ops-requires g t c κs within =
    let here = c.in-Repeat-Repeat in
    let seen = ap op_weight (ap op_of here.is-0 ∙ view-open_repeat here.tokens here.kind here.separator) in
    let inside = ap (λ xs. ops_weight (ops_of xs)) c.deref.ensures.value in
    (omega (arith, c.decreases, seen, inside), within)

pub same_ops-same_op-requires : goal.same_ops-same_op-requires
same_ops-same_op-requires g t c κs within =
    let lighter = op_no_heavier c.args.one.now c.loop-op.op-index c.op-item.result c.loop-op-test.true c.op-item.is in
    (omega (arith, c.decreases, lighter), within)

pub same_op-returns-then-same_suffix : goal.same_op-returns-then-same_suffix
same_op-returns-then-same_suffix g t c =
    let here = c.in-Repeat-Repeat in
    let one = ap op_of here.is-0 ∙ view-open_repeat here.tokens here.kind here.separator in
    let two = ap op_of here.is-1 ∙ view-open_repeat here.ts here.k here.s in
    let inside = inside_tells _ _ _ _ _ (ap ops_of c.deref.ensures.value)
    (ap ops_of c.deref-then-same_suffix.ensures.value) c.same_ops.ensures in
    repetitions_tell _ _ (ops_of here.tokens.0.items) (ops_of here.ts.0.items)
    (option_map separator_seen here.separator) (option_map separator_seen here.s) here.kind here.k
    c.same_suffix.result c.same_ops.result one two c.same_suffix.ensures c.if-same_suffix.true inside

pub same_op-returns-then-same_delimiter : goal.same_op-returns-then-same_delimiter
same_op-returns-then-same_delimiter g t c =
    let here = c.in-Subtree-Subtree in
    let one = ap op_of here.is-0 ∙ view-open here.tokens here.delimiter in
    let two = ap op_of here.is-1 ∙ view-open here.ts here.d in
    let inside = inside_tells _ _ _ _ _ (ap ops_of c.deref-then-same_delimiter.ensures.value)
    (ap ops_of c.deref-then-same_delimiter-2.ensures.value) c.same_ops-then-same_delimiter.ensures in
    groups_tell _ _ here.delimiter here.d (ops_of here.tokens.0.items) (ops_of here.ts.0.items)
    c.same_delimiter.result c.same_ops-then-same_delimiter.result one two c.same_delimiter.ensures
    c.if-same_delimiter.true inside

pub same_ops-returns-then-not-same_op : goal.same_ops-returns-then-not-same_op
same_ops-returns-then-not-same_op g t c =
    other_differs _ _ ops_one_by_one (AreSameOps (ops_of c.args.one.now) (ops_of c.args.two.now)) c.args.one.now
    c.loop-op.op-index c.op-item.result c.in-Some.other.now
    c.loop-op.rest.now c.in-Some.others.now c.same_op.result c.loop-op-test.true c.op-item.is c.in-Some.ensures.cases.0
    c.same_op.ensures c.if-not-same_op.true
    c.loop-op.invariant

pub same_ops-loop-op-preserved : goal.same_ops-loop-op-preserved
same_ops-loop-op-preserved g t c =
    one_more _ _ ops_one_by_one (AreSameOps (ops_of c.args.one.now) (ops_of c.args.two.now)) c.args.one.now
    c.loop-op.op-index c.op-item.result c.in-Some.other.now
    c.loop-op.rest.now c.in-Some.others.now c.same_op.result c.loop-op-test.true c.op-item.is c.in-Some.ensures.cases.0
    c.same_op.ensures c.if-not-same_op.false
    c.loop-op.invariant

pub same_ops-returns : goal.same_ops-returns
same_ops-returns g t c =
    at_the_end _ _ ops_one_by_one (AreSameOps (ops_of c.args.one.now) (ops_of c.args.two.now)) c.args.one.now
    c.loop-op.op-index
    c.loop-op.rest.now c.is_empty.result c.loop-op-test.false
    (empty_tells c.loop-op.rest.now c.is_empty.result c.is_empty.ensures) c.loop-op.invariant
