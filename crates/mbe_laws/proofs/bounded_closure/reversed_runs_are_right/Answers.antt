use Rattle.mbe_laws.proofs.Orders.OrderLemmas.{reversed_runs_are_right}
use Rattle.mbe_laws.proofs.bounded_closure.reversed_runs_are_right.Goals as goal

pub returns : goal.returns
returns c = reversed_runs_are_right
