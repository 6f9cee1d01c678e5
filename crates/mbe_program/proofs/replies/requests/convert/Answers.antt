use Rattle.mbe_program.specs.Replies.Answers.{answer_of}
use Rattle.mbe_program.specs.Replies.Requests.{source_of, no_input}
use Rattle.mbe_program.proofs.ReplyLemmas.CallLemmas.{converts_to}
use Rattle.mbe_program.proofs.replies.requests.convert.Goals as goal

pub returns-in-Ok : goal.returns-in-Ok
returns-in-Ok g c =
    converts_to c.args.request.now (source_of c.args.input) c.in-Some.asked c.in-Ok.tree (answer_of c.shown.result)
    c.in-Some.ensures.known c.in-Ok.ensures.trees c.shown.ensures

pub returns-in-Err : goal.returns-in-Err
returns-in-Err g c = no_input c.in-Some.asked c.in-Some.ensures.known c.in-Err.ensures.fails
