use Rattle.std.proofs.Common.{length}
use Rattle.mbe_diagnostics.proofs.rule_checks.follow_check.+spell.Given as goal

abbrev pub decreases-spell : goal.decreases-spell
decreases-spell l = length l.puncts.now
