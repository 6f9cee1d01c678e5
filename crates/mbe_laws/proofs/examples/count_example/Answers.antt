use Rattle.mbe_laws.proofs.RepeatLemmas.{count_example}
use Rattle.mbe_laws.proofs.examples.count_example.Goals as goal

pub returns : goal.returns
returns c = count_example
