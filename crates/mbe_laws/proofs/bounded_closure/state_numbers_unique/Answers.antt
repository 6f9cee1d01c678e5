use Rattle.mbe_laws.proofs.Run.BoundedRun.{state_numbers_unique}
use Rattle.mbe_laws.proofs.bounded_closure.state_numbers_unique.Goals as goal

pub returns : goal.returns
returns c = state_numbers_unique
