use Rattle.mbe_text.proofs.ReadBack.BackLemmas.{trees_round_trip}
use Rattle.mbe_text.proofs.laws.trees_round_trip.Goals as goal

pub returns : goal.returns
returns c = trees_round_trip
