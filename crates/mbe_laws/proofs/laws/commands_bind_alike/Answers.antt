use Rattle.mbe_laws.proofs.Bindings.CommandLemmas.{commands_bind_alike}
use Rattle.mbe_laws.proofs.laws.commands_bind_alike.Goals as goal

pub returns : goal.returns
returns c = commands_bind_alike
