use Rattle.mbe_laws.proofs.FaultExampleLemmas.{specifier_examples}
use Rattle.mbe_laws.proofs.examples.specifier_examples.Goals as goal

pub returns : goal.returns
returns c = specifier_examples
