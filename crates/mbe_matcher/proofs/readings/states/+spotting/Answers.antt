use Rattle.std.proofs.Common.{◌≡◌, ℕ, List, ◌∷◌, ◌++◌, map, option_map, Some, ap, sym, subst, ◌∙◌, arith}
use Rattle.std.specs.Prelude.{None, OnOk, IfSome}
use Rattle.mbe_semantics.specs.Matching.States.{op_state_count}
use Rattle.mbe_semantics.specs.Syntax.Op.{no_ops}
use Rattle.mbe_ops.specs.Views.{op_of, ops_of}
use Rattle.mbe_ops.specs.OpIter.{events_left, ops_in}
use Rattle.mbe_ops.proofs.EqualityLemmas.{ops_weight}
use Rattle.mbe_ops.proofs.WalkLemmas.{op_first, no_op_first, ops_at_first}
use Rattle.mbe_matcher.specs.Readings.States.{PatternState, before, inside_of, states, op_states}
use Rattle.mbe_matcher.specs.Readings.Views.{state_seen}
use Rattle.mbe_matcher.proofs.Divergence.StateLemmas.{pushed-more, pushed-op, pushed-end, states_in, op-spots}
use Rattle.mbe_matcher.proofs.Divergence.StateLemmas.{inside-lighter}
use Rattle.mbe_matcher.proofs.readings.states.+spotting.Goals as goal
use Rattle.mbe_matcher.proofs.readings.states.+spotting.Goals.{push_op-In_ok-push}

-- how many dots there are in the op
counted : (g : _) (t : ℕ) (c : push_op-In_ok-push g t) → c.in_ok-state_count.state_count
    ≡ op_state_count (op_of c.args.op.now)
counted g t c =
    subst (λ r. IfSome r (λ n. n ≡ op_state_count (op_of c.args.op.now))) c.in_ok-state_count.ensures.ok_part
    c.count_op_states.ensures

-- the one before it, and what is in it
pushed : (g : _) (t : ℕ) (c : push_op-In_ok-push g t) (inside : List PatternState)
    → inside ≡ states_in (inside_of (op_of c.args.op.now))
    → map state_seen c.push.new.self.items ++ inside
    ≡ map state_seen c.args.all.now.items ++ op_states (op_of c.args.op.now)
pushed g t c inside e =
    let o = op_of c.args.op.now in
    pushed-more c.args.all.now.items c.push.new.self.items _ (before o (op_state_count o)) inside (op_states o)
    c.in_ok-push.ensures.items (ap (before o) (counted g t c))
    (op-spots o ∙ ap (λ l. before o (op_state_count o) ∷ l) (sym e))

pub push_op-inside-requires : goal.push_op-inside-requires
push_op-inside-requires g t c = counted g t (goal.at.push_op-inside-requires g t c).In_ok-push

pub push_op-push_states-requires : goal.push_op-push_states-requires
push_op-push_states-requires g t c κs within =
    let here = c.in-Some in
    let seen : inside_of (op_of c.args.op.now) ≡ Some (ops_of here.ops.now, state_seen here.end) =
    sym c.inside.ensures ∙ ap (option_map (λ p. (ops_of p.0.now, state_seen p.1))) here.is in
    let lighter = inside-lighter (op_of c.args.op.now) (ops_of here.ops.now) (state_seen here.end) seen in
    (omega (arith, c.decreases, lighter), within)

pub push_states-push_op-requires : goal.push_states-push_op-requires
push_states-push_op-requires g t c κs within =
    let here = op_first c.in-Some.stop c.in-Op.op _ (events_left c.next.new.self) c.in-Some.ensures.steps c.in-Op.is in
    let weight = ap ops_weight here in
    (omega (arith, c.decreases, weight, c.loop-stop.invariant.lighter), within)

pub push_states-loop-stop-init : goal.push_states-loop-stop-init
push_states-loop-stop-init g t c =
    let whole = ops_at_first _ _ None (ops_of c.args.ops.now) c.into_iter-stop-iterator.ensures.into_iter_gives
    c.new-stop-items.ensures in
    let weight = ap ops_weight whole in
    record {
      lighter = omega (arith, weight);
      so_far = ap (λ os. map state_seen c.args.all.now.items ++ states os (state_seen c.args.end)) whole;
    }

pub push_states-loop-stop-preserved-in-Continue-1 : goal.push_states-loop-stop-preserved-in-Continue-1
push_states-loop-stop-preserved-in-Continue-1 g t c =
    let left = events_left c.next.new.self in
    let here = op_first c.in-Some.stop c.in-Op.op _ left c.in-Some.ensures.steps c.in-Op.is in
    let weight = ap ops_weight here in
    let before = c.loop-stop.invariant in
    record {
      lighter = omega (arith, weight, before.lighter);
      so_far = pushed-op _ _ _ _ (ops_in left) (op_of c.in-Op.op.now) (state_seen c.args.end) here
          c.in_ok-push_op-in-Op.ensures before.so_far;
    }

pub push_states-loop-stop-preserved : goal.push_states-loop-stop-preserved
push_states-loop-stop-preserved g t c =
    let here = no_op_first c.in-Some.stop _ (events_left c.next.new.self) c.in-Some.ensures.steps c.in-Open.is in
    let weight = ap ops_weight here in
    let before = c.loop-stop.invariant in
    record {
      lighter = omega (arith, weight, before.lighter);
      so_far = ap (λ os. map state_seen c.loop-stop.all.items ++ states os (state_seen c.args.end)) (sym here)
          ∙ before.so_far;
    }

pub push_op-returns-in-Some : goal.push_op-returns-in-Some
push_op-returns-in-Some g t c =
    let here = c.in-Some in
    let seen : inside_of (op_of c.args.op.now) ≡ Some (ops_of here.ops.now, state_seen here.end) =
    sym c.inside.ensures ∙ ap (option_map (λ p. (ops_of p.0.now, state_seen p.1))) here.is in
    subst (λ v. OnOk c.push_states.result (map state_seen c.push_states.new.all.items ≡ v))
    (pushed g t (goal.at.push_op-returns-in-Some g t c).In_ok-push
    (states (ops_of here.ops.now) (state_seen here.end)) (ap states_in (sym seen))) c.push_states.ensures

pub push_states-returns : goal.push_states-returns
push_states-returns g t c =
    let none_left : ops_in (events_left c.loop-stop.stop-iterator) ≡ no_ops = ap ops_in c.in-None.ensures.steps.0 in
    pushed-end c.loop-stop.all.items c.push.new.self.items c.args.end (map state_seen c.args.all.now.items)
    (ops_in (events_left c.loop-stop.stop-iterator)) (ops_of c.args.ops.now) none_left c.in_ok-push.ensures.items
    c.loop-stop.invariant.so_far
