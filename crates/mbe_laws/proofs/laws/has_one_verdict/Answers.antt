use Rattle.mbe_laws.proofs.Matching.RunLemmas.{has_one_verdict}
use Rattle.mbe_laws.proofs.laws.has_one_verdict.Goals as goal

pub returns : goal.returns
returns c = has_one_verdict
