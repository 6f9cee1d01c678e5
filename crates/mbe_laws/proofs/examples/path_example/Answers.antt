use Rattle.mbe_laws.proofs.ExampleLemmas.{path_example}
use Rattle.mbe_laws.proofs.examples.path_example.Goals as goal

pub returns : goal.returns
returns c = path_example
