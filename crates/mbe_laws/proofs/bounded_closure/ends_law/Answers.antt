use Rattle.mbe_laws.proofs.Reports.EndLemmas.{ends_law}
use Rattle.mbe_laws.proofs.bounded_closure.ends_law.Goals as goal

pub returns : goal.returns
returns c = ends_law
