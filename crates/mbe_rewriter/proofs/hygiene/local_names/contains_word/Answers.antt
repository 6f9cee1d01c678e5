use Rattle.std.proofs.Common.{arith}
use Rattle.mbe_rewriter.proofs.hygiene.local_names.contains_word.Goals as goal

pub offset_bounds-words-one-index : goal.offset_bounds-words-one-index
offset_bounds-words-one-index c = let k = c.loop-one-test.true in omega (arith, k)
