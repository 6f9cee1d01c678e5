use Rattle.mbe.proofs.AnswerOnce.{one_answer}
use Rattle.mbe.proofs.laws.one_answer.Goals as goal

pub returns : goal.returns
returns g c = one_answer _
