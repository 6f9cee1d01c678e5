use Rattle.mbe_text.proofs.ReadBack.GapLemmas.{gaps_are_blank}
use Rattle.mbe_text.proofs.laws.gaps_are_blank.Goals as goal

pub returns : goal.returns
returns c = gaps_are_blank
