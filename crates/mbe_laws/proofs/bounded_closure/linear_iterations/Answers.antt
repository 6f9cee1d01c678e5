use Rattle.mbe_laws.proofs.Run.BoundedRun.{linear_iterations}
use Rattle.mbe_laws.proofs.bounded_closure.linear_iterations.Goals as goal

pub returns : goal.returns
returns c = linear_iterations
