use Rattle.mbe_text.proofs.ReadBack.GapLemmas.{puncts_join}
use Rattle.mbe_text.proofs.laws.puncts_join.Goals as goal

pub returns : goal.returns
returns c = puncts_join
