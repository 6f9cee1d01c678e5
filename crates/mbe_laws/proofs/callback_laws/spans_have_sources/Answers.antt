use Rattle.mbe_laws.proofs.Writing.SpanLemmas.{spans_have_sources}
use Rattle.mbe_laws.proofs.callback_laws.spans_have_sources.Goals as goal

pub returns : goal.returns
returns g c = spans_have_sources _
