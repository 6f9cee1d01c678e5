use Rattle.mbe_text.proofs.ReadBack.QuoteLemmas.{strings_are_read}
use Rattle.mbe_text.proofs.laws.strings_are_read.Goals as goal

pub returns : goal.returns
returns c = strings_are_read
