use Rattle.mbe_laws.proofs.Matching.RunLemmas.{runs_are_right}
use Rattle.mbe_laws.proofs.laws.runs_are_right.Goals as goal

pub returns : goal.returns
returns c = runs_are_right
