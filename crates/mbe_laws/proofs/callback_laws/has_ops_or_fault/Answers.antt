use Rattle.mbe_laws.proofs.Definitions.HeadLemmas.{has_ops_or_fault}
use Rattle.mbe_laws.proofs.callback_laws.has_ops_or_fault.Goals as goal

pub returns : goal.returns
returns g c = has_ops_or_fault _
