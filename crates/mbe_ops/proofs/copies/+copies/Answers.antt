use Rattle.std.proofs.Common.{◌∙◌, sym, ap, arith}
use Rattle.mbe_ops.specs.Views.{op_of, ops_of}
use Rattle.mbe_ops.proofs.EqualityLemmas.{op_weight, ops_weight, op_no_heavier, one_copied}
use Rattle.mbe_ops.proofs.OpViews.{view-open, view-open_repeat, copied_group, copied_repetition}
use Rattle.mbe_ops.proofs.copies.+copies.Goals as goal

pub clone_op-clone_ops-requires : goal.clone_op-clone_ops-requires
clone_op-clone_ops-requires g t c κs within =
    let here = c.in-Repeat in
    let seen = ap op_weight (ap op_of here.is ∙ view-open_repeat here.tokens here.kind here.separator) in
    let inside = ap (λ xs. ops_weight (ops_of xs)) c.deref.ensures.value in
    (omega (arith, c.decreases, seen, inside), within)

pub clone_op-clone_ops-requires-in-Subtree : goal.clone_op-clone_ops-requires-in-Subtree
clone_op-clone_ops-requires-in-Subtree g t c κs within =
    let here = c.in-Subtree in
    let seen = ap op_weight (ap op_of here.is ∙ view-open here.tokens here.delimiter) in
    let inside = ap (λ xs. ops_weight (ops_of xs)) c.deref-in-Subtree.ensures.value in
    (omega (arith, c.decreases, seen, inside), within)

pub clone_ops-clone_op-requires : goal.clone_ops-clone_op-requires
clone_ops-clone_op-requires g t c κs within =
    let lighter = op_no_heavier c.args.ops.now c.loop-op.op-index c.op-item.result c.loop-op-test.true c.op-item.is in
    (omega (arith, c.decreases, lighter), within)

pub clone_op-returns-in_ok-clone_separator-in-Repeat : goal.clone_op-returns-in_ok-clone_separator-in-Repeat
clone_op-returns-in_ok-clone_separator-in-Repeat g t c =
    let here = c.in-Repeat in
    copied_repetition c.in_ok-clone_ops-in-Repeat.field-0 here.tokens c.deref.result.now here.kind
    c.in_ok-clone_separator-in-Repeat.field-0 here.separator
    c.in_ok-clone_ops-in-Repeat.ensures c.deref.ensures.value c.in_ok-clone_separator-in-Repeat.ensures
    ∙ sym (ap op_of here.is)

pub clone_op-returns-in_ok-clone_ops-in-Subtree : goal.clone_op-returns-in_ok-clone_ops-in-Subtree
clone_op-returns-in_ok-clone_ops-in-Subtree g t c =
    let here = c.in-Subtree in
    copied_group c.in_ok-clone_ops-in-Subtree.field-0 here.tokens c.deref-in-Subtree.result.now
    c.in_ok-delimiter-in-Subtree.delimiter here.delimiter c.in_ok-clone_ops-in-Subtree.ensures
    c.deref-in-Subtree.ensures.value c.in_ok-delimiter-in-Subtree.ensures ∙ sym (ap op_of here.is)

pub clone_ops-loop-op-preserved : goal.clone_ops-loop-op-preserved
clone_ops-loop-op-preserved g t c =
    one_copied op_of c.loop-op.copy.items c.push.new.self.items c.args.ops.now c.loop-op.op-index c.op-item.result
    c.in_ok-op.op c.loop-op-test.true c.op-item.is
    c.in_ok-push.ensures.items c.in_ok-op.ensures c.loop-op.invariant
