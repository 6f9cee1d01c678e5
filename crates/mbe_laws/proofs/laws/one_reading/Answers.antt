use Rattle.mbe_semantics.proofs.PlainLemmas.{one_reading}
use Rattle.mbe_laws.proofs.laws.one_reading.Goals as goal

pub returns : goal.returns
returns c = one_reading
