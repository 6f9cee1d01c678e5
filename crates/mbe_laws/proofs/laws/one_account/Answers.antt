use Rattle.mbe_laws.proofs.Writing.LawLemmas.{one_account}
use Rattle.mbe_laws.proofs.laws.one_account.Goals as goal

pub returns : goal.returns
returns c = one_account
