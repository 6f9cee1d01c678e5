use Rattle.mbe_program.specs.Replies.Answers.{answer_of}
use Rattle.mbe_program.specs.Replies.ReadMacros.{borrowed}
use Rattle.mbe_program.specs.Replies.Requests.{source_of}
use Rattle.mbe_program.proofs.ReplyLemmas.ReadLemmas.{expands_argument, expands_nothing}
use Rattle.mbe_program.proofs.replies.read_macro.BorrowedMacro.expand.Goals as goal

pub returns-in-Ok : goal.returns-in-Ok
returns-in-Ok g c =
    expands_argument (borrowed c.args.self.now) (source_of c.args.argument) c.args.call_site c.span_of.result
    c.in-Ok.argument
    (answer_of c.expand_trees.result) c.span_of.ensures c.in-Ok.ensures.trees c.expand_trees.ensures

pub returns-in-Err : goal.returns-in-Err
returns-in-Err g c =
    expands_nothing (borrowed c.args.self.now) (source_of c.args.argument) c.args.call_site (answer_of c.in-Err.answer)
    c.in-Err.ensures.fails
