use Rattle.mbe_laws.proofs.Loop.BoundedOffsets.{state_numbers_step}
use Rattle.mbe_laws.proofs.bounded_closure.state_numbers_step.Goals as goal

pub returns : goal.returns
returns c = state_numbers_step
