use Rattle.mbe_tt.specs.Laws.CodeEquality.{same_tells}
use Rattle.mbe_tt.specs.Trees.Leaf.{ident_code}
use Rattle.mbe_ops.proofs.equality.same_ident.Goals as goal

pub returns : goal.returns
returns g c = same_tells ident_code _ _ _ c.eq.ensures
