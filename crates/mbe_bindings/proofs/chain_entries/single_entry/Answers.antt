use Rattle.std.proofs.Common.{◌≡◌, arith, sym, ◌∙◌, rules}
use Rattle.mbe_log.specs.Chain.{own_in}
use Rattle.mbe_log.proofs.ChainLemmas.{same_list, part_there}
use Rattle.mbe_bindings.proofs.ReadLemmas.{own_room, only_entry}
use Rattle.mbe_bindings.proofs.chain_entries.single_entry.Goals as goal

pub bounds-lists-part : goal.bounds-lists-part
bounds-lists-part g c = part_there c.args.lists.now c.args.part c.requires

pub own_at-requires : goal.own_at-requires
own_at-requires g c =
    let one : own_in c.index-lists-part.result.link c.args.part.first ≡ 1 = search rules in
    let room = own_room c.args.lists.now c.args.part c.index-lists-part.result 1 c.requires c.index-lists-part.is one in
    omega (arith, room)

pub returns-in-None-eq1 : goal.returns-in-None-eq1
returns-in-None-eq1 g c =
    let one : own_in c.index-lists-part.result.link c.args.part.first ≡ 1 = search rules in
    only_entry c.args.lists.now c.args.part c.index-lists-part.result c.own_at.result.now
    (same_list c.args.lists.now c.args.part c.index-lists-part.result c.requires c.index-lists-part.is)
    (sym c.prefix.ensures.link ∙ c.in-None-eq1.is-0) one c.own_at.ensures

pub offset_bounds-lists-part : goal.offset_bounds-lists-part
offset_bounds-lists-part g c =
    let k = part_there c.args.lists.now c.args.part c.requires in omega (arith, k)
