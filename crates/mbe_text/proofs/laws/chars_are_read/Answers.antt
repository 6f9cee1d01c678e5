use Rattle.mbe_text.proofs.ReadBack.CharLemmas.{chars_are_read}
use Rattle.mbe_text.proofs.laws.chars_are_read.Goals as goal

pub returns : goal.returns
returns c = chars_are_read
