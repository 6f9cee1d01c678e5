use Rattle.mbe_laws.proofs.FirstExampleLemmas.{template_examples}
use Rattle.mbe_laws.proofs.examples.template_examples.Goals as goal

pub returns : goal.returns
returns c = template_examples
