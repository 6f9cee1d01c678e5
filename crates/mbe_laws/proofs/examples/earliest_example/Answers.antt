use Rattle.mbe_laws.proofs.FurtherExampleLemmas.{earliest_example}
use Rattle.mbe_laws.proofs.examples.earliest_example.Goals as goal

pub returns : goal.returns
returns c = earliest_example
