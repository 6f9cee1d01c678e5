use Rattle.mbe_laws.proofs.Run.BoundedRun.{bounded_law}
use Rattle.mbe_laws.proofs.bounded_closure.bounded_law.Goals as goal

pub returns : goal.returns
returns c = bounded_law
