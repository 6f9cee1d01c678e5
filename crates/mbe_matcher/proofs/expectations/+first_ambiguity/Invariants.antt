use Rattle.std.proofs.Common.{length}
use Rattle.mbe_matcher.proofs.expectations.+first_ambiguity.Given as goal

abbrev pub decreases-first_ambiguity : goal.decreases-first_ambiguity
decreases-first_ambiguity g l = length l.next_steps.now
