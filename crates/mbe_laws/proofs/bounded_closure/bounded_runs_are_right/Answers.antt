use Rattle.mbe_laws.proofs.Run.BoundedRun.{bounded_runs_are_right}
use Rattle.mbe_laws.proofs.bounded_closure.bounded_runs_are_right.Goals as goal

pub returns : goal.returns
returns c = bounded_runs_are_right
