use Rattle.std.proofs.Common.{◌≡◌, List, refl, subst}
use Rattle.mbe_program.specs.declared.replies.requests.FlatVerdict.{FlatVerdict}
use Rattle.mbe_program.specs.Replies.Answers.{answer_of}
use Rattle.mbe_program.specs.Replies.Requests.{argument_of, definition_of}
use Rattle.mbe_program.proofs.ReplyLemmas.BareLemmas.{no_answer-bare}
use Rattle.mbe_c.specs.Copies.{GivesVerdicts, with_verdicts, without_verdicts}
use Rattle.mbe_c.proofs.GivingLemmas.{gives_message}
use Rattle.mbe_c.proofs.mbe_c_explain.Goals as goal

pub returns-in-Err-clause-explains : goal.returns-in-Err-clause-explains
returns-in-Err-clause-explains c =
    let a = answer_of c.in-Err.answer in
    let r = c.args.request.now in
    let definition = definition_of r c.args.definition.now c.args.definition_tokens.now in
    let argument = argument_of r c.args.argument.now c.args.argument_tokens.now in
    let bare = no_answer-bare r c.args.grammar.now definition argument a c.in-Err.ensures.fails in
    without_verdicts (
      a,
      c.in-Err.ensures.fails,
      gives_message a c.args.message.now c.copy_answer.new.message c.copy_answer.new.tokens c.copy_answer.new.text
          c.copy_answer.new.reply bare c.copy_answer.ensures.gives,
    ) refl

pub returns-in-Ok-clause-explains : goal.returns-in-Ok-clause-explains
returns-in-Ok-clause-explains c =
    let same : c.deref.result.now ≡ c.in-Ok.found.items = cc in
    with_verdicts c.in-Ok.found.items c.in-Ok.ensures.explains
    (subst (λ (vs : List FlatVerdict). GivesVerdicts vs c.args.verdicts.now c.copy_verdicts.new.verdicts
    c.copy_verdicts.new.reply) same
    c.copy_verdicts.ensures.gives) refl
