use Rattle.mbe_laws.proofs.Run.BoundedRun.{same_verdict}
use Rattle.mbe_laws.proofs.bounded_closure.same_verdict.Goals as goal

pub returns : goal.returns
returns c = same_verdict
