use Rattle.std.proofs.lemmas.Result.{err_from_is_err_and}
use Rattle.mbe_program.specs.Replies.Answers.{answer_of}
use Rattle.mbe_program.specs.Replies.Requests.{ExplainsTrees, IsNoAnswer, IsNoResult, ShowsVerdicts, no_argument}
use Rattle.mbe_program.specs.Replies.Requests.{no_definition, no_result, source_of}
use Rattle.mbe_program.proofs.ReplyLemmas.CallLemmas.{err_map, explains_both, ok_map, read_both}
use Rattle.mbe_program.proofs.replies.requests.explain.Goals as goal

pub returns-in_err-definition-clause-fails : goal.returns-in_err-definition-clause-fails
returns-in_err-definition-clause-fails g c =
    let p = err_from_is_err_and c.from_residual.result c.from_residual.ensures.1 in
    rw (p.1, p.2) (no_definition c.in-Some.asked c.in-Some.ensures.known c.in_err-definition.ensures.fails)

pub returns-in_err-argument-clause-fails : goal.returns-in_err-argument-clause-fails
returns-in_err-argument-clause-fails g c =
    let p = err_from_is_err_and c.from_residual-in_err-argument.result c.from_residual-in_err-argument.ensures.1 in
    rw (p.1, p.2) (no_argument c.in-Some.asked c.in-Some.ensures.known c.in_ok-definition.definition
    c.in_ok-definition.ensures.trees
    c.in_err-argument.ensures.fails)

pub returns-clause-explains : goal.returns-clause-explains
returns-clause-explains g c =
    ok_map c.explain_trees.result
    (λ found. ExplainsTrees c.in-Some.asked c.args.grammar.now c.in_ok-definition.definition c.in_ok-argument.argument
    found.items)
    (λ found. ShowsVerdicts c.args.request.now c.args.grammar.now (source_of c.args.definition)
    (source_of c.args.argument) found.items)
    (λ found shown. explains_both c.args.request.now c.args.grammar.now (source_of c.args.definition)
    (source_of c.args.argument) found.items
    c.in-Some.asked c.in-Some.ensures.known c.in_ok-definition.definition c.in_ok-definition.ensures.trees
    c.in_ok-argument.argument
    c.in_ok-argument.ensures.trees shown) c.explain_trees.ensures.explains

pub returns-clause-fails : goal.returns-clause-fails
returns-clause-fails g c =
    err_map c.explain_trees.result
    (λ a. IsNoResult c.in-Some.asked c.args.grammar.now c.in_ok-definition.definition (answer_of a))
    (λ a. IsNoAnswer c.args.request.now c.args.grammar.now (source_of c.args.definition) (source_of c.args.argument)
    (answer_of a))
    (λ a none. no_result (read_both c.args.request.now (source_of c.args.definition) (source_of c.args.argument)
    c.in-Some.asked c.in-Some.ensures.known c.in_ok-definition.definition c.in_ok-definition.ensures.trees
    c.in_ok-argument.argument
    c.in_ok-argument.ensures.trees) none) c.explain_trees.ensures.fails
