use Rattle.mbe_laws.proofs.ExampleLemmas.{twice_example}
use Rattle.mbe_laws.proofs.examples.twice_example.Goals as goal

pub returns : goal.returns
returns c = twice_example
