use Rattle.std.proofs.Common.{arith}
use Rattle.mbe_rewriter.proofs.hygiene.contexts.step_context.Goals as goal

pub offset_bounds-contexts-one-index : goal.offset_bounds-contexts-one-index
offset_bounds-contexts-one-index c = let k = c.loop-one-test.true in omega (arith, k)
