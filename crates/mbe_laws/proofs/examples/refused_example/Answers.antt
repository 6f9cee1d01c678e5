use Rattle.mbe_laws.proofs.ExampleLemmas.{refused_example}
use Rattle.mbe_laws.proofs.examples.refused_example.Goals as goal

pub returns : goal.returns
returns c = refused_example
