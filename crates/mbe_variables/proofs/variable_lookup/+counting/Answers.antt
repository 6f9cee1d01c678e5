use Rattle.std.proofs.Common.{ap, sym, ◌∙◌, arith}
use Rattle.std.specs.Prelude.{option_map, filter_map, None}
use Rattle.mbe_variables.specs.RoundCounts.{shortest, shorter, extent_seen}
use Rattle.mbe_semantics.specs.Syntax.Op.{uses_of, uses_of_op}
use Rattle.mbe_semantics.specs.Transcription.Rounds.{extent_under}
use Rattle.mbe_ops.specs.Views.{ops_of, op_of}
use Rattle.mbe_ops.specs.OpIter.{events_left, ops_in}
use Rattle.mbe_bindings.specs.BindingViews.{env_of}
use Rattle.mbe_ops.proofs.EqualityLemmas.{ops_weight}
use Rattle.mbe_ops.proofs.WalkLemmas.{op_first, no_op_first, ops_at_first}
use Rattle.mbe_ops.proofs.OpViews.{view-open}
use Rattle.mbe_variables.proofs.FollowLemmas.{shortest_next, shortest_end, view-body}
use Rattle.mbe_variables.proofs.variable_lookup.+counting.Goals as goal

pub shortest-shortest_of_op-requires : goal.shortest-shortest_of_op-requires
shortest-shortest_of_op-requires g t c κs within =
    let here = op_first c.in-Some.stop c.in-Op.op _ (events_left c.next.new.self) c.in-Some.ensures.steps c.in-Op.is in
    let weight = ap ops_weight here in
    (omega (arith, c.decreases, weight, c.loop-stop.invariant.lighter), within)

pub shortest-loop-stop-init : goal.shortest-loop-stop-init
shortest-loop-stop-init g t c =
    let f = extent_under (env_of c.args.bindings.now) c.args.path.now in
    let whole = ops_at_first _ _ None (ops_of c.args.ops.now) c.into_iter-stop-iterator.ensures.into_iter_gives
    c.new-stop-items.ensures in
    let weight = ap ops_weight whole in
    record { lighter = omega (arith, weight); least = sym (ap (λ os. shortest (filter_map f (uses_of os))) whole) }

pub shortest-loop-stop-preserved-in-Op : goal.shortest-loop-stop-preserved-in-Op
shortest-loop-stop-preserved-in-Op g t c =
    let f = extent_under (env_of c.args.bindings.now) c.args.path.now in
    let left = ops_in (events_left c.next.new.self) in
    let here = op_first c.in-Some.stop c.in-Op.op _ (events_left c.next.new.self) c.in-Some.ensures.steps c.in-Op.is in
    let weight = ap ops_weight here in
    let before = c.loop-stop in
    record {
      lighter = omega (arith, weight, before.invariant.lighter);
      least = shortest_next f (op_of c.in-Op.op.now) left (ops_of c.args.ops.now) _ _ _
          (before.invariant.least ∙ ap (λ os. shorter (option_map extent_seen before.least)
          (shortest (filter_map f (uses_of os)))) here)
          c.shortest_of_op.ensures c.shorter-least.ensures;
    }

pub shortest-loop-stop-preserved : goal.shortest-loop-stop-preserved
shortest-loop-stop-preserved g t c =
    let f = extent_under (env_of c.args.bindings.now) c.args.path.now in
    let here = no_op_first c.in-Some.stop _ (events_left c.next.new.self) c.in-Some.ensures.steps c.in-Open.is in
    let weight = ap ops_weight here in
    let before = c.loop-stop in
    record {
      lighter = omega (arith, weight, before.invariant.lighter);
      least = before.invariant.least ∙ ap (λ os. shorter (option_map extent_seen before.least)
          (shortest (filter_map f (uses_of os)))) here;
    }

pub shortest-returns : goal.shortest-returns
shortest-returns g t c =
    let f = extent_under (env_of c.args.bindings.now) c.args.path.now in
    let none_left = ap ops_in c.in-None.ensures.steps.0 in
    shortest_end f (ops_of c.args.ops.now) _
    (c.loop-stop.invariant.least ∙ ap (λ os. shorter (option_map extent_seen c.loop-stop.least)
    (shortest (filter_map f (uses_of os)))) none_left)

pub shortest_of_op-returns-in-Subtree : goal.shortest_of_op-returns-in-Subtree
shortest_of_op-returns-in-Subtree g t c =
    let f = extent_under (env_of c.args.bindings.now) c.args.path.now in
    c.shortest.ensures ∙ (ap (λ os. shortest (filter_map f (uses_of (ops_of os)))) c.deref.ensures.value
    ∙ sym (ap (λ o. shortest (filter_map f (uses_of_op (op_of o)))) c.in-Subtree.is
    ∙ ap (λ o. shortest (filter_map f (uses_of_op o))) (view-open c.in-Subtree.tokens c.in-Subtree.delimiter)))

pub shortest_of_op-returns-in-Repeat : goal.shortest_of_op-returns-in-Repeat
shortest_of_op-returns-in-Repeat g t c =
    let f = extent_under (env_of c.args.bindings.now) c.args.path.now in
    c.shortest-in-Repeat.ensures ∙ (ap (λ os. shortest (filter_map f (uses_of (ops_of os))))
    c.deref-in-Repeat.ensures.value
    ∙ sym (ap (λ o. shortest (filter_map f (uses_of_op (op_of o)))) c.in-Repeat.is
    ∙ ap (λ o. shortest (filter_map f (uses_of_op o)))
    (view-body c.in-Repeat.tokens c.in-Repeat.kind c.in-Repeat.separator)))
