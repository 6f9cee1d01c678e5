use Rattle.mbe_laws.proofs.Orders.DropLemmas.{drops_law}
use Rattle.mbe_laws.proofs.bounded_closure.drops_law.Goals as goal

pub returns : goal.returns
returns c = drops_law
