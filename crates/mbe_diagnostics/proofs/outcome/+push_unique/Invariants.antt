use Rattle.std.proofs.Common.{length}
use Rattle.mbe_diagnostics.proofs.outcome.+push_unique.Given as goal

abbrev pub decreases-push_unique : goal.decreases-push_unique
decreases-push_unique g l = length l.parts.now
