use Rattle.std.proofs.Common.{ap, ◌∙◌, arith}
use Rattle.std.specs.Prelude.{None}
use Rattle.mbe_semantics.specs.Matching.States.{state_count}
use Rattle.mbe_ops.specs.Views.{op_of, ops_of}
use Rattle.mbe_ops.specs.OpIter.{events_left, ops_in}
use Rattle.mbe_ops.proofs.EqualityLemmas.{op_weight, ops_weight}
use Rattle.mbe_ops.proofs.WalkLemmas.{op_first, no_op_first, ops_at_first}
use Rattle.mbe_ops.proofs.OpViews.{view-open, view-open_repeat, view-subtree, view-repeat}
use Rattle.mbe_matcher.proofs.empty_repetition.+counting.Goals as goal

pub count_op_states-count_states-requires : goal.count_op_states-count_states-requires
count_op_states-count_states-requires g t c κs within =
    let here = c.in-Subtree in
    let seen = ap op_weight (ap op_of here.is ∙ view-open here.tokens _) in
    let inside = ap (λ xs. ops_weight (ops_of xs)) c.deref.ensures.value in
    (omega (arith, c.decreases, seen, inside), within)

pub count_op_states-count_states-requires-in-Repeat : goal.count_op_states-count_states-requires-in-Repeat
count_op_states-count_states-requires-in-Repeat g t c κs within =
    let here = c.in-Repeat in
    let seen = ap op_weight (ap op_of here.is ∙ view-open_repeat here.tokens _ _) in
    let inside = ap (λ xs. ops_weight (ops_of xs)) c.deref-in-Repeat.ensures.value in
    (omega (arith, c.decreases, seen, inside), within)

pub count_op_states-returns-in-Subtree : goal.count_op_states-returns-in-Subtree
count_op_states-returns-in-Subtree g t c =
    rw (c.in-Subtree.is, view-subtree) (rw c.deref.ensures.value at c.count_states.ensures)

pub count_op_states-returns-in-Repeat : goal.count_op_states-returns-in-Repeat
count_op_states-returns-in-Repeat g t c = rw (c.in-Repeat.is, view-repeat)
    (rw c.deref-in-Repeat.ensures.value at c.count_states-in-Repeat.ensures)

pub count_states-count_op_states-requires : goal.count_states-count_op_states-requires
count_states-count_op_states-requires g t c κs within =
    let here = op_first c.in-Some.stop c.in-Op.op _ (events_left c.next.new.self) c.in-Some.ensures.steps c.in-Op.is in
    let weight = ap ops_weight here in
    (omega (arith, c.decreases, weight, c.loop-stop.invariant.lighter), within)

pub count_states-loop-stop-init : goal.count_states-loop-stop-init
count_states-loop-stop-init g t c =
    let whole = ops_at_first _ _ None (ops_of c.args.ops.now) c.into_iter-stop-iterator.ensures.into_iter_gives
    c.new-stop-items.ensures in
    let weight = ap ops_weight whole in
    let all = ap state_count whole in
    record { lighter = omega (arith, weight); counted = omega (arith, all) }

pub count_states-loop-stop-preserved-in_ok-count-in-Op : goal.count_states-loop-stop-preserved-in_ok-count-in-Op
count_states-loop-stop-preserved-in_ok-count-in-Op g t c =
    let here = op_first c.in-Some.stop c.in-Op.op _ (events_left c.next.new.self) c.in-Some.ensures.steps c.in-Op.is in
    let weight = ap ops_weight here in
    let counted = ap state_count here in
    let before = c.loop-stop.invariant in
    let one = c.in_ok-checked_add-in-Op.ensures in
    let inside = c.in_ok-count_op_states-in-Op.ensures in
    let both = c.in_ok-count-in-Op.ensures in
    record {
      lighter = omega (arith, weight, before.lighter);
      counted = omega (arith, counted, before.counted, one, inside, both);
    }

pub count_states-loop-stop-preserved : goal.count_states-loop-stop-preserved
count_states-loop-stop-preserved g t c =
    let here = no_op_first c.in-Some.stop _ (events_left c.next.new.self) c.in-Some.ensures.steps c.in-Open.is in
    let weight = ap ops_weight here in
    let counted = ap state_count here in
    let before = c.loop-stop.invariant in
    record { lighter = omega (arith, weight, before.lighter); counted = omega (arith, counted, before.counted) }

pub count_states-returns : goal.count_states-returns
count_states-returns g t c =
    let none_left = ap (λ stops. state_count (ops_in stops)) c.in-None.ensures.steps.0 in
    omega (arith, none_left, c.loop-stop.invariant.counted)
