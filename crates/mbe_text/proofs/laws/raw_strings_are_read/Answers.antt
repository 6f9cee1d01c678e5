use Rattle.mbe_text.proofs.ReadBack.RawLemmas.{raw_strings_are_read}
use Rattle.mbe_text.proofs.laws.raw_strings_are_read.Goals as goal

pub returns : goal.returns
returns c = raw_strings_are_read
