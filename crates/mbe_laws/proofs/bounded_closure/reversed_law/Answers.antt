use Rattle.mbe_laws.proofs.Orders.OrderLemmas.{reversed_law}
use Rattle.mbe_laws.proofs.bounded_closure.reversed_law.Goals as goal

pub returns : goal.returns
returns c = reversed_law
