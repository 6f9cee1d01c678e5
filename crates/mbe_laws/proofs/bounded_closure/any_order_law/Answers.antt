use Rattle.mbe_laws.proofs.Orders.OrderLemmas.{any_order_law}
use Rattle.mbe_laws.proofs.bounded_closure.any_order_law.Goals as goal

pub returns : goal.returns
returns c = any_order_law
