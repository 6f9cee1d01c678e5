use Rattle.mbe_tt.specs.Laws.CodeEquality.{same_by}
use Rattle.mbe_tt.specs.Trees.Leaf.{literal_code}
use Rattle.mbe_matcher.proofs.token_widths.is_same_literal.Goals as goal

pub returns : goal.returns
returns g c = same_by literal_code _ _ _ c.has_same_parts.ensures
