use Rattle.mbe_laws.proofs.FirstExampleLemmas.{cast_example}
use Rattle.mbe_laws.proofs.examples.cast_example.Goals as goal

pub returns : goal.returns
returns c = cast_example
