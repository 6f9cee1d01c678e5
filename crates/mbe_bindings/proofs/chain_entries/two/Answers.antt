use Rattle.std.proofs.Common.{◌≡◌, arith, sym, ◌∙◌, rules}
use Rattle.mbe_log.specs.Chain.{own_in}
use Rattle.mbe_log.proofs.ChainLemmas.{same_list, part_there}
use Rattle.mbe_bindings.proofs.ReadLemmas.{own_room, two_entries}
use Rattle.mbe_bindings.proofs.chain_entries.two.Goals as goal

pub bounds-lists-part : goal.bounds-lists-part
bounds-lists-part g c = part_there c.args.lists.now c.args.part c.requires

pub own_at-first-requires : goal.own_at-first-requires
own_at-first-requires g c =
    let two : own_in c.index-lists-part.result.link c.args.part.first ≡ 2 = search rules in
    let room = own_room c.args.lists.now c.args.part c.index-lists-part.result 2 c.requires c.index-lists-part.is two in
    omega (arith, room)

pub own_at-second-requires : goal.own_at-second-requires
own_at-second-requires g c =
    let two : own_in c.index-lists-part.result.link c.args.part.first ≡ 2 = search rules in
    let room = own_room c.args.lists.now c.args.part c.index-lists-part.result 2 c.requires c.index-lists-part.is two in
    omega (arith, room)

pub returns-in-None-eq2 : goal.returns-in-None-eq2
returns-in-None-eq2 g c =
    let two : own_in c.index-lists-part.result.link c.args.part.first ≡ 2 = search rules in
    two_entries c.args.lists.now c.args.part c.index-lists-part.result
    c.own_at-first.result.now c.own_at-second.result.now
    (same_list c.args.lists.now c.args.part c.index-lists-part.result c.requires c.index-lists-part.is)
    (sym c.prefix.ensures.link ∙ c.in-None-eq2.is-0) two c.own_at-first.ensures c.own_at-second.ensures

pub offset_bounds-lists-part : goal.offset_bounds-lists-part
offset_bounds-lists-part g c =
    let k = part_there c.args.lists.now c.args.part c.requires in omega (arith, k)
