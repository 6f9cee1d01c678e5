use Rattle.mbe_laws.proofs.FurtherExampleLemmas.{invisible_example}
use Rattle.mbe_laws.proofs.examples.invisible_example.Goals as goal

pub returns : goal.returns
returns c = invisible_example
