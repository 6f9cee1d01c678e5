use Rattle.mbe_laws.proofs.Run.BoundedRun.{bounded_reading_found}
use Rattle.mbe_laws.proofs.bounded_closure.bounded_reading_found.Goals as goal

pub returns : goal.returns
returns c = bounded_reading_found
