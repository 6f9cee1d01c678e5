use Rattle.mbe_laws.proofs.Patterns.ListLemmas.{lists_fit_once}
use Rattle.mbe_laws.proofs.laws.lists_fit_once.Goals as goal

pub returns : goal.returns
returns c = lists_fit_once
