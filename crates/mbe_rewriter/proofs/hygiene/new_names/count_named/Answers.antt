use Rattle.std.proofs.Common.{arith}
use Rattle.mbe_rewriter.proofs.hygiene.new_names.count_named.Goals as goal

pub offset_bounds-given-one-index : goal.offset_bounds-given-one-index
offset_bounds-given-one-index g c = let k = c.loop-one-test.true in omega (arith, k)
