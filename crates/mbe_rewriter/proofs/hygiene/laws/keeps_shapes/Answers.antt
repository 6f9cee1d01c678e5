use Rattle.mbe_rewriter.proofs.Renaming.ShapeLemmas.{keeps_shapes}
use Rattle.mbe_rewriter.proofs.hygiene.laws.keeps_shapes.Goals as goal

pub returns : goal.returns
returns c = keeps_shapes
