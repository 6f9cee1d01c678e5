use Rattle.std.proofs.Common.{arith}
use Rattle.mbe_rewriter.proofs.hygiene.new_names.namings.Goals as goal

pub offset_bounds-locals-local-index : goal.offset_bounds-locals-local-index
offset_bounds-locals-local-index g c = let k = c.loop-local-test.true in omega (arith, k)
