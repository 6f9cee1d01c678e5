use Rattle.mbe_laws.proofs.ExampleLemmas.{unbound_example}
use Rattle.mbe_laws.proofs.examples.unbound_example.Goals as goal

pub returns : goal.returns
returns c = unbound_example
