use Rattle.mbe_matcher.proofs.Divergence.PartialReadings.{readings-part}
use Rattle.mbe_matcher.proofs.readings.laws.readings_diverge.Goals as goal

pub returns : goal.returns
returns c = readings-part
