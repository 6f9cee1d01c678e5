use Rattle.std.proofs.Common.{length}
use Rattle.mbe_ops.proofs.equality.+same_puncts.Given as goal

abbrev pub decreases-same_puncts : goal.decreases-same_puncts
decreases-same_puncts l = length l.one.now
