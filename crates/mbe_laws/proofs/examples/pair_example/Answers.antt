use Rattle.mbe_laws.proofs.FirstExampleLemmas.{pair_example}
use Rattle.mbe_laws.proofs.examples.pair_example.Goals as goal

pub returns : goal.returns
returns c = pair_example
