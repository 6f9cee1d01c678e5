use Rattle.std.proofs.Common.{arith}
use Rattle.mbe_rewriter.proofs.defining_words.words_of.Goals as goal

pub offset_bounds-events-event-index : goal.offset_bounds-events-event-index
offset_bounds-events-event-index g c = let k = c.loop-event-test.true in omega (arith, k)
