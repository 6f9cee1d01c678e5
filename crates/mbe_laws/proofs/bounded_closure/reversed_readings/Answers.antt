use Rattle.mbe_laws.proofs.Orders.OrderLemmas.{reversed_readings}
use Rattle.mbe_laws.proofs.bounded_closure.reversed_readings.Goals as goal

pub returns : goal.returns
returns c = reversed_readings
