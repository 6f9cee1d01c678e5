use Rattle.mbe_tt.specs.Laws.CodeEquality.{same_by}
use Rattle.mbe_ops.specs.Equality.{text_code}
use Rattle.mbe_ops.proofs.ops.SeparatorPartialEq.eq.Goals as goal

pub returns : goal.returns
returns g c = same_by text_code _ _ _ c.same_separator.ensures
