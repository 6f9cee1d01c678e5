use Rattle.mbe_laws.proofs.Bindings.LogLemmas.{entries_have_accounts}
use Rattle.mbe_laws.proofs.laws.entries_have_accounts.Goals as goal

pub returns : goal.returns
returns c = entries_have_accounts
