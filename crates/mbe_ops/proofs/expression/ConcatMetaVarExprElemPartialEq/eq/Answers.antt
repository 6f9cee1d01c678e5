use Rattle.mbe_tt.specs.Laws.CodeEquality.{same_by}
use Rattle.mbe_ops.specs.Expressions.{element_code}
use Rattle.mbe_ops.proofs.expression.ConcatMetaVarExprElemPartialEq.eq.Goals as goal

pub returns : goal.returns
returns g c = same_by element_code _ _ _ c.same_element.ensures
