use Rattle.std.proofs.Common.{length}
use Rattle.mbe_diagnostics.proofs.outcome.+list.Given as goal

abbrev pub decreases-list : goal.decreases-list
decreases-list g l = length l.parts.now
