use Rattle.mbe_laws.proofs.FirstExampleLemmas.{definition_examples}
use Rattle.mbe_laws.proofs.examples.definition_examples.Goals as goal

pub returns : goal.returns
returns c = definition_examples
