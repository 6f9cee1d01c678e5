use Rattle.mbe_laws.proofs.FirstExampleLemmas.{verdict_examples}
use Rattle.mbe_laws.proofs.examples.verdict_examples.Goals as goal

pub returns : goal.returns
returns c = verdict_examples
