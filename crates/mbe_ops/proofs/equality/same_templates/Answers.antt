use Rattle.std.proofs.Common.{ap}
use Rattle.mbe_ops.specs.Views.{ops_of}
use Rattle.mbe_ops.proofs.EqualityLemmas.{inside_tells}
use Rattle.mbe_ops.proofs.equality.same_templates.Goals as goal

pub returns : goal.returns
returns g c =
    inside_tells _ _ _ _ _ (ap ops_of c.deref.ensures.value) (ap ops_of c.deref-2.ensures.value) c.same_ops.ensures
