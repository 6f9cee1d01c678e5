use Rattle.mbe_tt.specs.Laws.CodeEquality.{same_tells}
use Rattle.mbe_tt.specs.Trees.Leaf.{literal_code}
use Rattle.mbe_ops.proofs.equality.same_literal.Goals as goal

pub returns : goal.returns
returns g c = same_tells literal_code _ _ _ c.eq.ensures
