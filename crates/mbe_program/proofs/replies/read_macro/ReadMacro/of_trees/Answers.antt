use Rattle.mbe_program.specs.Replies.Answers.{answer_of}
use Rattle.mbe_program.specs.Replies.Requests.{no_grammar, no_macro}
use Rattle.mbe_program.proofs.ReplyLemmas.CallLemmas.{unread_by}
use Rattle.mbe_program.proofs.ReplyLemmas.ReadLemmas.{grammar_read}
use Rattle.mbe_program.proofs.replies.read_macro.ReadMacro.of_trees.Goals as goal

pub returns-in-Err-clause-fails : goal.returns-in-Err-clause-fails
returns-in-Err-clause-fails g c = no_grammar c.in-Err.ensures.asked c.in-Err.ensures.fails

pub returns-clause-fails : goal.returns-clause-fails
returns-clause-fails g c =
    let there = grammar_read c.args.asked c.args.grammar.now c.in-Ok.fragments c.in-Ok.ensures.read in
    no_macro there.0 there.1
    (unread_by c.args.asked.edition c.args.definition.now.1 c.in-Err-defined.error (answer_of c.unread.result)
    c.in-Err-defined.ensures.refused
    c.unread.ensures)
