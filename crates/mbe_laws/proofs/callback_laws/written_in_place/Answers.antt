use Rattle.mbe_laws.proofs.Writing.SpanLemmas.{written_in_place}
use Rattle.mbe_laws.proofs.callback_laws.written_in_place.Goals as goal

pub returns : goal.returns
returns g c = written_in_place _
