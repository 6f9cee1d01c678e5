use Rattle.std.proofs.lemmas.Result.{err_from_is_err_and}
use Rattle.mbe_program.specs.Replies.Answers.{answer_of}
use Rattle.mbe_program.specs.Replies.Requests.{no_rules, no_trees_of_definition}
use Rattle.mbe_program.proofs.ReplyLemmas.CallLemmas.{unread_by}
use Rattle.mbe_program.proofs.replies.requests.define.Goals as goal

pub returns-in_err-definition-clause-fails : goal.returns-in_err-definition-clause-fails
returns-in_err-definition-clause-fails g c =
    let p = err_from_is_err_and c.from_residual.result c.from_residual.ensures.1 in
    rw (p.1, p.2) (no_trees_of_definition c.in-Some.asked c.in-Some.ensures.known c.in_err-definition.ensures.fails)

pub returns-clause-fails : goal.returns-clause-fails
returns-clause-fails g c =
    no_rules c.in-Some.asked c.in-Some.ensures.known c.in_ok-definition.definition c.in_ok-definition.ensures.trees
    (unread_by c.in-Some.asked.edition c.in_ok-definition.definition.1 c.in-Err.error (answer_of c.unread.result)
    c.in-Err.ensures.refused
    c.unread.ensures)
