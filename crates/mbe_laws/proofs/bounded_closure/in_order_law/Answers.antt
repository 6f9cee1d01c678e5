use Rattle.mbe_laws.proofs.Orders.OrderLemmas.{in_order_law}
use Rattle.mbe_laws.proofs.bounded_closure.in_order_law.Goals as goal

pub returns : goal.returns
returns c = in_order_law
