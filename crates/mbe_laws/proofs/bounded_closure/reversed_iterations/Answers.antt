use Rattle.mbe_laws.proofs.Orders.OrderLemmas.{reversed_iterations}
use Rattle.mbe_laws.proofs.bounded_closure.reversed_iterations.Goals as goal

pub returns : goal.returns
returns c = reversed_iterations
