use Rattle.mbe_rewriter.proofs.Renaming.ApartLemmas.{no_name_around}
use Rattle.mbe_rewriter.proofs.hygiene.laws.no_name_around.Goals as goal

pub returns : goal.returns
returns c = no_name_around
