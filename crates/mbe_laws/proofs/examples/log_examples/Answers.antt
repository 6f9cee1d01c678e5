use Rattle.mbe_laws.proofs.LogExampleLemmas.{log_examples}
use Rattle.mbe_laws.proofs.examples.log_examples.Goals as goal

pub returns : goal.returns
returns c = log_examples
