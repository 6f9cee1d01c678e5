use Rattle.mbe_laws.proofs.Matching.EndLemmas.{partial_readings_end_inside}
use Rattle.mbe_laws.proofs.laws.partial_readings_end_inside.Goals as goal

pub returns : goal.returns
returns c = partial_readings_end_inside
