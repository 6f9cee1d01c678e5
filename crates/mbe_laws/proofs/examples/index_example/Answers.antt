use Rattle.mbe_laws.proofs.RepeatLemmas.{index_example}
use Rattle.mbe_laws.proofs.examples.index_example.Goals as goal

pub returns : goal.returns
returns c = index_example
