use Rattle.mbe_laws.proofs.Patterns.WordLemmas.{words_never_ambiguous}
use Rattle.mbe_laws.proofs.laws.words_never_ambiguous.Goals as goal

pub returns : goal.returns
returns c = words_never_ambiguous
