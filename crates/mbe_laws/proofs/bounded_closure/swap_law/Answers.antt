use Rattle.mbe_laws.proofs.Reports.BackwardLemmas.{swap_law}
use Rattle.mbe_laws.proofs.bounded_closure.swap_law.Goals as goal

pub returns : goal.returns
returns c = swap_law
