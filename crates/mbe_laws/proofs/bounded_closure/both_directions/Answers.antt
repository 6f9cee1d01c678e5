use Rattle.mbe_laws.proofs.Reports.BackwardLemmas.{both_directions}
use Rattle.mbe_laws.proofs.bounded_closure.both_directions.Goals as goal

pub returns : goal.returns
returns c = both_directions
