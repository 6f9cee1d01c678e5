use Rattle.mbe_laws.proofs.RepeatLemmas.{zip_example}
use Rattle.mbe_laws.proofs.examples.zip_example.Goals as goal

pub returns : goal.returns
returns c = zip_example
