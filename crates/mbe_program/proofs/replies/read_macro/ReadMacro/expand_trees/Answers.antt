use Rattle.std.proofs.Common.{subst}
use Rattle.mbe_program.specs.Replies.Answers.{answer_of}
use Rattle.mbe_program.specs.Replies.ReadMacros.{AnswersTreesBy}
use Rattle.mbe_program.proofs.replies.read_macro.ReadMacro.expand_trees.Goals as goal

pub returns : goal.returns
returns g c =
    subst (λ m. AnswersTreesBy m c.args.argument.now c.args.call_site (answer_of c.expand_trees.result))
    c.borrowed.ensures c.expand_trees.ensures
