use Rattle.mbe_laws.proofs.FaultExampleLemmas.{fault_examples}
use Rattle.mbe_laws.proofs.examples.fault_examples.Goals as goal

pub returns : goal.returns
returns c = fault_examples
