use Rattle.mbe_tt.proofs.Offsets.OffsetLemmas.{rest_after_trees}
use Rattle.mbe_tt.proofs.laws.rest_after_trees.Goals as goal

pub returns : goal.returns
returns c = rest_after_trees
