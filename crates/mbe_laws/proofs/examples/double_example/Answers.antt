use Rattle.mbe_laws.proofs.ExampleLemmas.{double_example}
use Rattle.mbe_laws.proofs.examples.double_example.Goals as goal

pub returns : goal.returns
returns c = double_example
