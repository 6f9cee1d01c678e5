use Rattle.mbe_program.specs.Replies.Answers.{answer_of}
use Rattle.mbe_program.specs.Replies.Requests.{source_of}
use Rattle.mbe_program.proofs.ReplyLemmas.CallLemmas.{unlexed_by}
use Rattle.mbe_program.proofs.replies.requests.lexed.Goals as goal

pub returns-in-Err-Fault-clause-fails : goal.returns-in-Err-Fault-clause-fails
returns-in-Err-Fault-clause-fails g c = λ flat.
    unlexed_by c.args.dialect (source_of c.args.input) c.in_ok-text.text.now c.in-Err-Fault.field-0 c.in-Err-Fault.fault
    (answer_of c.unlexed.result) flat c.in_ok-text.ensures.same (cc) c.in-Err-Fault.ensures.exact c.unlexed.ensures
