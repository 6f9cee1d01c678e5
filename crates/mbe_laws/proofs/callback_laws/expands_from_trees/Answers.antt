use Rattle.mbe_laws.proofs.Expansion.FromTreesLemmas.{expands_from_trees}
use Rattle.mbe_laws.proofs.callback_laws.expands_from_trees.Goals as goal

pub returns : goal.returns
returns g c = expands_from_trees _ _
