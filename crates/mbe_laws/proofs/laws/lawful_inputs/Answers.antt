use Rattle.mbe_semantics.proofs.InputLemmas.{lawful_inputs}
use Rattle.mbe_laws.proofs.laws.lawful_inputs.Goals as goal

pub returns : goal.returns
returns c = lawful_inputs
