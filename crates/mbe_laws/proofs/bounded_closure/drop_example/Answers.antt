use Rattle.mbe_laws.proofs.Orders.DropExampleLemmas.{drop_example}
use Rattle.mbe_laws.proofs.bounded_closure.drop_example.Goals as goal

pub returns : goal.returns
returns c = drop_example
