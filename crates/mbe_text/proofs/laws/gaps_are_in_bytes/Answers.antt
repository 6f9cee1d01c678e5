use Rattle.mbe_text.proofs.ReadBack.GapLemmas.{gaps_are_in_bytes}
use Rattle.mbe_text.proofs.laws.gaps_are_in_bytes.Goals as goal

pub returns : goal.returns
returns c = gaps_are_in_bytes
