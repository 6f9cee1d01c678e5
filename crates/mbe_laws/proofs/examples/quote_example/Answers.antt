use Rattle.mbe_laws.proofs.FirstExampleLemmas.{quote_example}
use Rattle.mbe_laws.proofs.examples.quote_example.Goals as goal

pub returns : goal.returns
returns c = quote_example
