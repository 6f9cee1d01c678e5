use Rattle.mbe_laws.proofs.ExampleLemmas.{front_example}
use Rattle.mbe_laws.proofs.examples.front_example.Goals as goal

pub returns : goal.returns
returns c = front_example
