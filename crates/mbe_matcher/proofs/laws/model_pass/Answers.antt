use Rattle.mbe_matcher.proofs.KeptEnds.{model_pass}
use Rattle.mbe_matcher.proofs.laws.model_pass.Goals as goal

pub returns : goal.returns
returns c = model_pass
