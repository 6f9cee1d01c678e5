use Rattle.mbe_laws.proofs.Bindings.RoundLemmas.{rounds_have_values}
use Rattle.mbe_laws.proofs.laws.rounds_have_values.Goals as goal

pub returns : goal.returns
returns c = rounds_have_values
