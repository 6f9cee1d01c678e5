use Rattle.std.proofs.Common.{arith}
use Rattle.mbe_log.proofs.ChainLemmas.{part_there, extended_here, extended_apart, forked_by}
use Rattle.mbe_log.proofs.chain.extend.Goals as goal

pub index-requires : goal.index-requires
index-requires g c =
    let k = part_there c.args.lists.now.items c.args.part c.requires in
    let o = c.args.lists.now.ok in omega (arith, k, o)

pub index-requires-then-part-len : goal.index-requires-then-part-len
index-requires-then-part-len g c =
    let k = part_there c.args.lists.now.items c.args.part c.requires in
    let o = c.args.lists.now.ok in omega (arith, k, o)

pub index_mut-requires : goal.index_mut-requires
index_mut-requires g c =
    let k = part_there c.args.lists.now.items c.args.part c.requires in
    let o = c.args.lists.now.ok in omega (arith, k, o)

pub index-requires-2 : goal.index-requires-2
index-requires-2 g c =
    let k = part_there c.args.lists.now.items c.args.part c.requires in
    let o = c.args.lists.now.ok in omega (arith, k, o)

pub returns-clause-ok : goal.returns-clause-ok
returns-clause-ok g c =
    extended_here c.args.lists.now.items c.args.part c.index.result.now c.index_mut.result.now c.index-2.result.now
    c.push-2.new.self c.args.entry c.len.result c.len-first.result c.requires c.index.ensures c.len.ensures
    c.if-part-len.false c.index_mut.ensures.value c.in_ok-push-3.ensures.ok c.index-2.ensures c.len-first.ensures

pub returns-then-part-len-clause-ok : goal.returns-then-part-len-clause-ok
returns-then-part-len-clause-ok g c =
    let lists = c.args.lists.now.items in
    let at = c.index-then-part-len.result.now in
    let ok = c.args.lists.now.ok in
    let count = c.len-then-part-len.ensures in
    extended_apart lists c.args.part c.index.result.now at c.push.new.self c.push-then-part-len.new.self.items
    c.args.entry c.len.result c.len-then-part-len.result c.len-then-part-len-2.result c.requires c.index.ensures
    c.len.ensures c.if-part-len.true c.index-then-part-len.ensures
    (forked_by lists c.args.part at c.from_link-list.result c.push.new.self c.args.entry c.link_to.result
    c.link_to.ensures c.from_link-list.ensures c.in_ok-push.ensures.ok)
    c.in_ok-push-2.ensures.items (omega (arith, ok, count)) c.len-then-part-len-2.ensures
