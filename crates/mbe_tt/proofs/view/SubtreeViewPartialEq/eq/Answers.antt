use Rattle.mbe_tt.specs.Laws.CodeEquality.{same_by}
use Rattle.mbe_tt.specs.Trees.Top.{top_code}
use Rattle.mbe_tt.proofs.view.SubtreeViewPartialEq.eq.Goals as goal

pub returns : goal.returns
returns g c = same_by top_code _ _ _ c.is_same.ensures
