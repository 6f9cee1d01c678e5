use Rattle.mbe_program.specs.Replies.Answers.{answer_of}
use Rattle.mbe_program.specs.Replies.Requests.{IsNoResult, source_of}
use Rattle.mbe_program.specs.Replies.ReadMacros.{IsUnread, no_macro_to_read, no_trees_to_read}
use Rattle.mbe_program.proofs.ReplyLemmas.CallLemmas.{err_map}
use Rattle.mbe_program.proofs.replies.read_macro.ReadMacro.read.Goals as goal

pub returns-in-Ok-clause-fails : goal.returns-in-Ok-clause-fails
returns-in-Ok-clause-fails g c =
    err_map c.of_trees.result (λ a. IsNoResult c.in-Some.asked c.args.grammar.now c.in-Ok.definition (answer_of a))
    (λ a. IsUnread c.args.request.now c.args.grammar.now (source_of c.args.definition) (answer_of a))
    (λ a none. no_macro_to_read c.in-Some.asked c.in-Some.ensures.known c.in-Ok.definition c.in-Ok.ensures.trees none)
    c.of_trees.ensures.fails

pub returns-in-Err-clause-fails : goal.returns-in-Err-clause-fails
returns-in-Err-clause-fails g c = no_trees_to_read c.in-Some.asked c.in-Some.ensures.known c.in-Err.ensures.fails
