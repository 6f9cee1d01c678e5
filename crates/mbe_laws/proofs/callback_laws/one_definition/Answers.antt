use Rattle.mbe_laws.proofs.Definitions.TemplateLemmas.{one_definition}
use Rattle.mbe_laws.proofs.callback_laws.one_definition.Goals as goal

pub returns : goal.returns
returns g c = one_definition _
