use Rattle.mbe_laws.proofs.FurtherExampleLemmas.{names_example}
use Rattle.mbe_laws.proofs.examples.names_example.Goals as goal

pub returns : goal.returns
returns c = names_example
