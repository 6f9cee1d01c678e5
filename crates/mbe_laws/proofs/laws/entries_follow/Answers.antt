use Rattle.mbe_laws.proofs.Bindings.LogLemmas.{entries_follow}
use Rattle.mbe_laws.proofs.laws.entries_follow.Goals as goal

pub returns : goal.returns
returns c = entries_follow
