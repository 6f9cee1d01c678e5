use Rattle.mbe_laws.proofs.Matching.RunLemmas.{matcher_law}
use Rattle.mbe_laws.proofs.laws.matcher_law.Goals as goal

pub returns : goal.returns
returns c = matcher_law
