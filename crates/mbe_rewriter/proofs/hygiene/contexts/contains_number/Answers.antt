use Rattle.std.proofs.Common.{arith}
use Rattle.mbe_rewriter.proofs.hygiene.contexts.contains_number.Goals as goal

pub offset_bounds-numbers-one-index : goal.offset_bounds-numbers-one-index
offset_bounds-numbers-one-index c = let k = c.loop-one-test.true in omega (arith, k)
