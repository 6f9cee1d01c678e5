use Rattle.mbe_matcher.proofs.StopOffsets.{continues}
use Rattle.mbe_matcher.proofs.laws.model_pass_continues.Goals as goal

pub returns : goal.returns
returns c = continues
