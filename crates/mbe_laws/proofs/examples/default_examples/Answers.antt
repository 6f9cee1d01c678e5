use Rattle.mbe_laws.proofs.LogExampleLemmas.{default_examples}
use Rattle.mbe_laws.proofs.examples.default_examples.Goals as goal

pub returns : goal.returns
returns c = default_examples
