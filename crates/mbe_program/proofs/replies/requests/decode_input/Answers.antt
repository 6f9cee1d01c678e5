use Rattle.mbe_program.specs.Replies.Answers.{answer_of}
use Rattle.mbe_program.specs.Replies.Requests.{source_of}
use Rattle.mbe_program.proofs.ReplyLemmas.CallLemmas.{untreed_by}
use Rattle.mbe_program.proofs.replies.requests.decode_input.Goals as goal

pub returns-in-Err-clause-fails : goal.returns-in-Err-clause-fails
returns-in-Err-clause-fails g c = λ flat.
    untreed_by c.args.dialect (source_of c.args.input) c.in-Err.error (answer_of c.invalid_tokens.result) flat
    c.in-Err.ensures.fails c.invalid_tokens.ensures
