use Rattle.mbe_semantics.proofs.PlainLemmas.{never_ambiguous}
use Rattle.mbe_laws.proofs.laws.never_ambiguous.Goals as goal

pub returns : goal.returns
returns c = never_ambiguous
