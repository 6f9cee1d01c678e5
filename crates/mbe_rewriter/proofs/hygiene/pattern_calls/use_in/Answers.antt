use Rattle.std.proofs.Common.{arith}
use Rattle.mbe_rewriter.proofs.hygiene.pattern_calls.use_in.Goals as goal

pub offset_bounds-words-word-index : goal.offset_bounds-words-word-index
offset_bounds-words-word-index c = let k = c.loop-word-test.true in omega (arith, k)
