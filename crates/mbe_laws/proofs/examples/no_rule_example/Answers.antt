use Rattle.mbe_laws.proofs.ExampleLemmas.{no_rule_example}
use Rattle.mbe_laws.proofs.examples.no_rule_example.Goals as goal

pub returns : goal.returns
returns c = no_rule_example
