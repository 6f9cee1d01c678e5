use Rattle.mbe_laws.proofs.FirstExampleLemmas.{optional_example}
use Rattle.mbe_laws.proofs.examples.optional_example.Goals as goal

pub returns : goal.returns
returns c = optional_example
