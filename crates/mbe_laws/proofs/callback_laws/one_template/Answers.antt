use Rattle.mbe_laws.proofs.Definitions.TemplateLemmas.{one_template}
use Rattle.mbe_laws.proofs.callback_laws.one_template.Goals as goal

pub returns : goal.returns
returns g c = one_template _
