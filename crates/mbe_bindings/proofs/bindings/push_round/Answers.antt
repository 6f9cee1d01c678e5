use Rattle.std.proofs.Common.{◌∙◌, ◌<◌, ◌≤◌, ap, map, length, rules}
use Rattle.mbe_semantics.specs.Bindings.Environment.{list}
use Rattle.mbe_bindings.specs.BindingViews.{all_values, value_seen}
use Rattle.mbe_bindings.proofs.BindingLemmas.{filling, filled_up, seen-nested}
use Rattle.mbe_bindings.proofs.bindings.push_round.Goals as goal

pub loop-alloc-preserved : goal.loop-alloc-preserved
loop-alloc-preserved g c =
    let short : length c.loop-alloc.list.items < c.args.number = search rules in
    record {
      same = c.loop-alloc.invariant.same;
      filling =
          rw c.in_ok-push.ensures.items
          (filling c.args.number c.loop-alloc.list.items c.args.list.now.items _ short
          (seen-nested c.new.result ∙ ap (λ xs. list (all_values (map value_seen xs))) c.new.ensures.items)
          c.loop-alloc.invariant.filling);
    }

pub returns : goal.returns
returns g c =
    let long : c.args.number ≤ length c.loop-alloc.list.items = search rules in
    rw (c.in_ok-push-2.ensures.items, ← c.loop-alloc.invariant.same)
    (filled_up c.args.number c.loop-alloc.list.items c.args.list.now.items _ long c.loop-alloc.invariant.filling)
