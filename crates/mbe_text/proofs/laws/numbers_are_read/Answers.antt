use Rattle.mbe_text.proofs.ReadBack.NumberLemmas.{numbers_are_read}
use Rattle.mbe_text.proofs.laws.numbers_are_read.Goals as goal

pub returns : goal.returns
returns c = numbers_are_read
