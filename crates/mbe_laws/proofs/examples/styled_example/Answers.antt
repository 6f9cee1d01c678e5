use Rattle.mbe_laws.proofs.ExampleLemmas.{styled_example}
use Rattle.mbe_laws.proofs.examples.styled_example.Goals as goal

pub returns : goal.returns
returns c = styled_example
