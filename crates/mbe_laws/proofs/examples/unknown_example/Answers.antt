use Rattle.mbe_laws.proofs.RepeatLemmas.{unknown_example}
use Rattle.mbe_laws.proofs.examples.unknown_example.Goals as goal

pub returns : goal.returns
returns c = unknown_example
