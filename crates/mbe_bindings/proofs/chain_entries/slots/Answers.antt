use Rattle.std.proofs.Common.{arith}
use Rattle.mbe_bindings.proofs.ReadLemmas.{collected_there, places-step, left-falls-at, places-end}
use Rattle.mbe_bindings.proofs.chain_entries.slots.Goals as goal

pub loop-next-smaller : goal.loop-next-smaller
loop-next-smaller g c =
    left-falls-at _ _ _ _ _ _ _ c.requires.chained c.in-Some.is c.loop-next.invariant.2 c.index-lists-part.is
    c.prefix-link.ensures.link

pub loop-next-preserved : goal.loop-next-preserved
loop-next-preserved g c =
    places-step _ _ _ _ _ _ _ _ _ c.requires.chained c.in-Some.is c.loop-next.invariant c.index-lists-part.is
    c.prefix-link.ensures.link c.prefix-link.ensures.own
    c.in_ok-push_slots.ensures

pub returns : goal.returns
returns g c = places-end _ _ _ _ _ c.in_default.is c.loop-next.invariant c.reverse.ensures.items

pub bounds-lists-part : goal.bounds-lists-part
bounds-lists-part g c =
    collected_there c.args.lists.now c.args.part c.in-Some.part c.loop-next.slots.items c.loop-next.next c.in-Some.is
    c.loop-next.invariant

pub offset_bounds-lists-part : goal.offset_bounds-lists-part
offset_bounds-lists-part g c =
    let k = collected_there c.args.lists.now c.args.part c.in-Some.part c.loop-next.slots.items c.loop-next.next
    c.in-Some.is c.loop-next.invariant in
    omega (arith, k)
