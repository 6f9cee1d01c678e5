use Rattle.mbe_matcher.proofs.TwoEnds.{second_pass}
use Rattle.mbe_matcher.proofs.laws.second_pass.Goals as goal

pub returns : goal.returns
returns c = second_pass
