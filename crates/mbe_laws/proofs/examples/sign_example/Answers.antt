use Rattle.mbe_laws.proofs.FurtherExampleLemmas.{sign_example}
use Rattle.mbe_laws.proofs.examples.sign_example.Goals as goal

pub returns : goal.returns
returns c = sign_example
