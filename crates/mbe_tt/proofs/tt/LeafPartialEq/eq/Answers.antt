use Rattle.mbe_tt.specs.Trees.Leaf.{leaf_code}
use Rattle.mbe_tt.specs.Laws.CodeEquality.{same_by}
use Rattle.mbe_tt.proofs.tt.LeafPartialEq.eq.Goals as goal

pub returns : goal.returns
returns g c = same_by leaf_code _ _ _ c.same_leaf.ensures
