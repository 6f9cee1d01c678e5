use Rattle.mbe_laws.proofs.Matching.RunLemmas.{one_verdict}
use Rattle.mbe_laws.proofs.laws.one_verdict.Goals as goal

pub returns : goal.returns
returns c = one_verdict
