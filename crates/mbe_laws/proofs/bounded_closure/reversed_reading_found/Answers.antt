use Rattle.mbe_laws.proofs.Orders.OrderLemmas.{reversed_reading_found}
use Rattle.mbe_laws.proofs.bounded_closure.reversed_reading_found.Goals as goal

pub returns : goal.returns
returns c = reversed_reading_found
