use Rattle.mbe_laws.proofs.Writing.LawLemmas.{writes_all_rounds}
use Rattle.mbe_laws.proofs.callback_laws.writes_all_rounds.Goals as goal

pub returns : goal.returns
returns g c = writes_all_rounds _
