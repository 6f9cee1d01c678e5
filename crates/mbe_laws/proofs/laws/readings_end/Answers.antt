use Rattle.mbe_semantics.proofs.PlainLemmas.{readings_end}
use Rattle.mbe_laws.proofs.laws.readings_end.Goals as goal

pub returns : goal.returns
returns c = readings_end
