use Rattle.mbe_rewriter.proofs.Renaming.SettledLemmas.{each_is_settled}
use Rattle.mbe_rewriter.proofs.hygiene.laws.each_is_settled.Goals as goal

pub returns : goal.returns
returns c = each_is_settled
