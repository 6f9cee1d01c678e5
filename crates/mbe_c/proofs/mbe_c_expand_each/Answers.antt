use Rattle.std.proofs.Common.{refl}
use Rattle.mbe_program.specs.Replies.Answers.{answer_of}
use Rattle.mbe_program.specs.Replies.Requests.{definition_of}
use Rattle.mbe_c.specs.Batch.{answers_seen, with_expansions, without_expansions}
use Rattle.mbe_c.proofs.EachLemmas.{no_expansion-bare}
use Rattle.mbe_c.proofs.GivingLemmas.{gives_message}
use Rattle.mbe_c.proofs.mbe_c_expand_each.Goals as goal

pub returns-in-Err-clause-expands : goal.returns-in-Err-clause-expands
returns-in-Err-clause-expands c =
    let a = answer_of c.in-Err.answer in
    let r = c.args.request.now in
    let definition = definition_of r c.args.definition.now c.args.definition_tokens.now in
    let bare = no_expansion-bare r c.args.grammar.now definition a c.in-Err.ensures.fails in
    without_expansions (
      a,
      c.in-Err.ensures.fails,
      gives_message a c.args.message.now c.copy_answer.new.message c.copy_answer.new.tokens c.copy_answer.new.text
          c.copy_answer.new.reply bare c.copy_answer.ensures.gives,
    ) refl refl refl

pub returns-in-Ok-clause-expands : goal.returns-in-Ok-clause-expands
returns-in-Ok-clause-expands c = with_expansions (answers_seen c.in-Ok.found) c.in-Ok.ensures.expands
    c.copy_answers.ensures.gives
