use Rattle.mbe_laws.proofs.Run.ExampleLemmas.{deep_example}
use Rattle.mbe_laws.proofs.bounded_closure.deep_example.Goals as goal

pub returns : goal.returns
returns c = deep_example
