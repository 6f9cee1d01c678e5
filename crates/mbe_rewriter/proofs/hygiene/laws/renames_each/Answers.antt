use Rattle.mbe_rewriter.proofs.Renaming.ShapeLemmas.{renames_each}
use Rattle.mbe_rewriter.proofs.hygiene.laws.renames_each.Goals as goal

pub returns : goal.returns
returns c = renames_each
