use Rattle.mbe_tt.specs.Trees.Leaf.{ident_code}
use Rattle.mbe_tt.specs.Laws.CodeEquality.{same_by}
use Rattle.mbe_tt.proofs.tt.IdentPartialEq.eq.Goals as goal

pub returns : goal.returns
returns g c = same_by ident_code _ _ _ c.same_ident.ensures
