use Rattle.mbe_tt.specs.Trees.Leaf.{literal_code}
use Rattle.mbe_tt.specs.Laws.CodeEquality.{same_by}
use Rattle.mbe_tt.proofs.tt.LiteralPartialEq.eq.Goals as goal

pub returns : goal.returns
returns g c = same_by literal_code _ _ _ c.same_literal.ensures
