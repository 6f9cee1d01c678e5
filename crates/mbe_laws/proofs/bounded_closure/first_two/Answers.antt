use Rattle.mbe_laws.proofs.Run.BoundedRun.{first_two}
use Rattle.mbe_laws.proofs.bounded_closure.first_two.Goals as goal

pub returns : goal.returns
returns c = first_two
