use Rattle.std.proofs.Common.{length}
use Rattle.mbe_diagnostics.proofs.outcome.+contains_part.Given as goal

abbrev pub decreases-contains_part : goal.decreases-contains_part
decreases-contains_part g l = length l.kept.now
