use Rattle.mbe_laws.proofs.ExampleLemmas.{endless_example}
use Rattle.mbe_laws.proofs.examples.endless_example.Goals as goal

pub returns : goal.returns
returns c = endless_example
