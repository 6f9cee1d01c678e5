use Rattle.mbe_laws.proofs.Reports.EndLemmas.{ends_preserved}
use Rattle.mbe_laws.proofs.bounded_closure.ends_preserved.Goals as goal

pub returns : goal.returns
returns c = ends_preserved
