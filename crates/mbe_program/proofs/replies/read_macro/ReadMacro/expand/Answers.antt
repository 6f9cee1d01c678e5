use Rattle.std.proofs.Common.{subst}
use Rattle.mbe_program.specs.Replies.Answers.{answer_of}
use Rattle.mbe_program.specs.Replies.Requests.{source_of}
use Rattle.mbe_program.specs.Replies.ReadMacros.{AnswersBy}
use Rattle.mbe_program.proofs.replies.read_macro.ReadMacro.expand.Goals as goal

pub returns : goal.returns
returns g c =
    subst (λ m. AnswersBy m (source_of c.args.argument) c.args.call_site (answer_of c.expand.result))
    c.borrowed.ensures c.expand.ensures
