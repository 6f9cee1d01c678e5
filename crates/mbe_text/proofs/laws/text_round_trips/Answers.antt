use Rattle.mbe_text.proofs.ReadBack.LexedLemmas.{text_round_trips}
use Rattle.mbe_text.proofs.laws.text_round_trips.Goals as goal

pub returns : goal.returns
returns c = text_round_trips
