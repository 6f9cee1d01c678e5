use Rattle.mbe_laws.proofs.VerdictLemmas.{nearest_example}
use Rattle.mbe_laws.proofs.examples.nearest_example.Goals as goal

pub returns : goal.returns
returns c = nearest_example
