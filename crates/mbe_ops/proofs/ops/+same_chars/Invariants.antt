use Rattle.std.proofs.Common.{length}
use Rattle.mbe_ops.proofs.ops.+same_chars.Given as goal

abbrev pub decreases-same_chars : goal.decreases-same_chars
decreases-same_chars l = length l.one.now
