use Rattle.mbe.proofs.TraceLemmas.{answers_are_traced}
use Rattle.mbe.proofs.laws.answers_are_traced.Goals as goal

pub returns : goal.returns
returns g c = answers_are_traced _
