use Rattle.std.proofs.Common.{◌≤◌, length}
use Rattle.mbe_matcher.proofs.compaction.LiveThreads.frames.Given as goal

abbrev pub invariant-loop-left : goal.invariant-loop-left
invariant-loop-left g l = l.left ≤ length l.frames

abbrev pub decreases-loop-left : goal.decreases-loop-left
decreases-loop-left g l = l.left
