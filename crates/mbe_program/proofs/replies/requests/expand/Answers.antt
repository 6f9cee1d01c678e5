use Rattle.std.proofs.Common.{inr}
use Rattle.mbe_program.specs.Replies.Answers.{answer_of}
use Rattle.mbe_program.specs.Replies.Requests.{no_argument, no_definition, source_of}
use Rattle.mbe_program.proofs.ReplyLemmas.CallLemmas.{expands_both}
use Rattle.mbe_program.proofs.ReplyLemmas.ReadLemmas.{expands_read}
use Rattle.mbe_program.proofs.replies.requests.expand.Goals as goal

pub returns-in-Err : goal.returns-in-Err
returns-in-Err g c = inr (no_definition c.in-Some.asked c.in-Some.ensures.known c.in-Err.ensures.fails)

pub returns-in-Err-trees : goal.returns-in-Err-trees
returns-in-Err-trees g c =
    inr (no_argument c.in-Some.asked c.in-Some.ensures.known c.in-Ok.tree c.in-Ok.ensures.trees
    c.in-Err-trees.ensures.fails)

pub returns-in-Ok-of_trees : goal.returns-in-Ok-of_trees
returns-in-Ok-of_trees g c =
    expands_read c.args.request.now c.args.grammar.now (source_of c.args.definition) (source_of c.args.argument)
    (answer_of c.expand_trees.result) c.in-Some.asked c.in-Some.ensures.known c.in-Ok.tree c.in-Ok.ensures.trees
    c.in-Ok-trees.tree c.in-Ok-trees.ensures.trees c.in-Ok-of_trees.rules c.in-Ok-of_trees.ensures.asked
    c.in-Ok-of_trees.ensures.read
    c.expand_trees.ensures

pub returns : goal.returns
returns g c =
    expands_both c.args.request.now c.args.grammar.now (source_of c.args.definition) (source_of c.args.argument)
    (answer_of c.in-Err-of_trees.answer) c.in-Some.asked c.in-Some.ensures.known c.in-Ok.tree c.in-Ok.ensures.trees
    c.in-Ok-trees.tree c.in-Ok-trees.ensures.trees (inr c.in-Err-of_trees.ensures.fails)
