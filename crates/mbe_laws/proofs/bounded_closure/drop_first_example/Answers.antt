use Rattle.mbe_laws.proofs.Orders.DropExampleLemmas.{drop_first_example}
use Rattle.mbe_laws.proofs.bounded_closure.drop_first_example.Goals as goal

pub returns : goal.returns
returns c = drop_first_example
