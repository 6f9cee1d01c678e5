use Rattle.mbe_ops.proofs.EqualityLemmas.{elements_tell}
use Rattle.mbe_ops.proofs.expression.same_elements.Goals as goal

pub returns : goal.returns
returns g c = elements_tell _ _ _ c.eq.ensures
