use Rattle.mbe_laws.proofs.Run.BoundedRun.{bounded_readings}
use Rattle.mbe_laws.proofs.bounded_closure.bounded_readings.Goals as goal

pub returns : goal.returns
returns c = bounded_readings
