use Rattle.mbe_laws.proofs.FurtherExampleLemmas.{marked_example}
use Rattle.mbe_laws.proofs.examples.marked_example.Goals as goal

pub returns : goal.returns
returns c = marked_example
