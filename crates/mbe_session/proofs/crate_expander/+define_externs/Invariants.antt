use Rattle.std.proofs.Common.{length}
use Rattle.mbe_session.proofs.crate_expander.+define_externs.Given as goal

abbrev pub decreases-define_externs : goal.decreases-define_externs
decreases-define_externs l = length l.externs.now
