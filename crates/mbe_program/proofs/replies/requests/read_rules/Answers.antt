use Rattle.mbe_program.specs.Replies.Answers.{answer_of}
use Rattle.mbe_program.proofs.ReplyLemmas.CallLemmas.{ungrammatical_by}
use Rattle.mbe_program.proofs.replies.requests.read_rules.Goals as goal

pub returns-in-Err-clause-fails : goal.returns-in-Err-clause-fails
returns-in-Err-clause-fails g c =
    ungrammatical_by c.args.text.now c.in_ok-text.text.now c.in-Err.fault (answer_of c.invalid_grammar.result)
    c.in_ok-text.ensures.same
    c.in-Err.ensures c.invalid_grammar.ensures
