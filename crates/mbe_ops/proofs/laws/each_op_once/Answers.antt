use Rattle.mbe_ops.proofs.WalkLemmas.{each_op_once}
use Rattle.mbe_ops.proofs.laws.each_op_once.Goals as goal

pub returns : goal.returns
returns g c = each_op_once
