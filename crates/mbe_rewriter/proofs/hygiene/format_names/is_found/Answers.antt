use Rattle.std.proofs.Common.{arith}
use Rattle.mbe_rewriter.proofs.hygiene.format_names.is_found.Goals as goal

pub offset_bounds-found-one-index : goal.offset_bounds-found-one-index
offset_bounds-found-one-index c = let k = c.loop-one-test.true in omega (arith, k)
