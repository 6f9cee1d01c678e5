use Rattle.mbe.proofs.AnswerExists.{has_answer}
use Rattle.mbe.proofs.laws.has_answer.Goals as goal

pub returns : goal.returns
returns g c = has_answer _
