use Rattle.mbe_ops.specs.Errors.ErrorViews.{errors_of}
use Rattle.mbe_program.specs.Replies.Answers.{answer_of}
use Rattle.mbe_program.specs.Replies.ReadMacros.{borrowed}
use Rattle.mbe_program.proofs.ReplyLemmas.ReadLemmas.{shown_of}
use Rattle.mbe_program.proofs.replies.read_macro.BorrowedMacro.expansion.Goals as goal

pub returns : goal.returns
returns g c =
    shown_of answer_of c.expansion_shown.result (g.G.FragmentGrammar.grammar c.args.grammar.now)
    (borrowed c.args.self.now)
    c.args.argument.now c.args.call_site
    c.in_ok-expansion.expansion.value.0 c.in_ok-expansion.expansion.value.1 (errors_of c.in_ok-expansion.expansion.err)
    c.in_ok-expansion.ensures
    c.expansion_shown.ensures
