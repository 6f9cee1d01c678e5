use Rattle.mbe_laws.proofs.FurtherExampleLemmas.{plus_example}
use Rattle.mbe_laws.proofs.examples.plus_example.Goals as goal

pub returns : goal.returns
returns c = plus_example
