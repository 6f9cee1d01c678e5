use Rattle.mbe_laws.proofs.Orders.OrderLemmas.{reversed_verdict}
use Rattle.mbe_laws.proofs.bounded_closure.reversed_verdict.Goals as goal

pub returns : goal.returns
returns c = reversed_verdict
