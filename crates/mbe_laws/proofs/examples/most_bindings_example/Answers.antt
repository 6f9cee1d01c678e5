use Rattle.mbe_laws.proofs.FurtherExampleLemmas.{most_bindings_example}
use Rattle.mbe_laws.proofs.examples.most_bindings_example.Goals as goal

pub returns : goal.returns
returns c = most_bindings_example
