use Rattle.mbe_laws.proofs.Definitions.TemplateLemmas.{ops_or_fault}
use Rattle.mbe_laws.proofs.callback_laws.ops_or_fault.Goals as goal

pub returns : goal.returns
returns g c = ops_or_fault _
