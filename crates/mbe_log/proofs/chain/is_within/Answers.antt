use Rattle.std.proofs.Common.{arith}
use Rattle.mbe_log.proofs.ChainLemmas.{within_if, within_unless}
use Rattle.mbe_log.proofs.chain.is_within.Goals as goal

pub returns-then-part-lists : goal.returns-then-part-lists
returns-then-part-lists g c =
    within_if c.args.lists.now c.args.part c.index-lists-part.result c.len.result c.if-part-lists.true
    c.index-lists-part.is c.len.ensures

pub returns-else-part-lists : goal.returns-else-part-lists
returns-else-part-lists g c = within_unless c.args.lists.now c.args.part c.if-part-lists.false

pub offset_bounds-lists-part : goal.offset_bounds-lists-part
offset_bounds-lists-part g c = let k = c.if-part-lists.true in omega (arith, k)
