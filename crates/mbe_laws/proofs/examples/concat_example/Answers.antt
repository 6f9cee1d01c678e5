use Rattle.mbe_laws.proofs.ConcatLemmas.{concat_example}
use Rattle.mbe_laws.proofs.examples.concat_example.Goals as goal

pub returns : goal.returns
returns c = concat_example
