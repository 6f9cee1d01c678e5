use Rattle.mbe_rewriter.proofs.Renaming.ApartLemmas.{one_name_each}
use Rattle.mbe_rewriter.proofs.hygiene.laws.one_name_each.Goals as goal

pub returns : goal.returns
returns c = one_name_each
