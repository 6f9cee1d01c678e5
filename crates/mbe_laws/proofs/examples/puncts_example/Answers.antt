use Rattle.mbe_laws.proofs.ExampleLemmas.{puncts_example}
use Rattle.mbe_laws.proofs.examples.puncts_example.Goals as goal

pub returns : goal.returns
returns c = puncts_example
