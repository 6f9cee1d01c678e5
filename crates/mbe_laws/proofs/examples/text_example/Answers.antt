use Rattle.mbe_laws.proofs.ExampleLemmas.{text_example}
use Rattle.mbe_laws.proofs.examples.text_example.Goals as goal

pub returns : goal.returns
returns c = text_example
