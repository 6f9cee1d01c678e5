use Rattle.mbe_laws.proofs.RepeatLemmas.{list_example}
use Rattle.mbe_laws.proofs.examples.list_example.Goals as goal

pub returns : goal.returns
returns c = list_example
