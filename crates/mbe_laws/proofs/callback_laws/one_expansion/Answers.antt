use Rattle.mbe_laws.proofs.Expansion.ExpansionLemmas.{one_expansion}
use Rattle.mbe_laws.proofs.callback_laws.one_expansion.Goals as goal

pub returns : goal.returns
returns g c = one_expansion _
