use Rattle.mbe_text.proofs.ReadBack.GapLemmas.{gaps_separate_puncts}
use Rattle.mbe_text.proofs.laws.gaps_separate_puncts.Goals as goal

pub returns : goal.returns
returns c = gaps_separate_puncts
