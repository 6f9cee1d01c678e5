use Rattle.std.proofs.Common.{arith}
use Rattle.mbe_rewriter.proofs.hygiene.pattern_calls.push_first_uses.Goals as goal

pub offset_bounds-names-name-index : goal.offset_bounds-names-name-index
offset_bounds-names-name-index g c = let k = c.loop-name-test.true in omega (arith, k)
