use Rattle.mbe_laws.proofs.ExampleLemmas.{let_example}
use Rattle.mbe_laws.proofs.examples.let_example.Goals as goal

pub returns : goal.returns
returns c = let_example
