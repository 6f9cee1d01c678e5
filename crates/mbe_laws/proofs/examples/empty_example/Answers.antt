use Rattle.mbe_laws.proofs.RepeatLemmas.{empty_example}
use Rattle.mbe_laws.proofs.examples.empty_example.Goals as goal

pub returns : goal.returns
returns c = empty_example
