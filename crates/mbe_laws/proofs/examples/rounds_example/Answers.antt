use Rattle.mbe_laws.proofs.FirstExampleLemmas.{rounds_example}
use Rattle.mbe_laws.proofs.examples.rounds_example.Goals as goal

pub returns : goal.returns
returns c = rounds_example
