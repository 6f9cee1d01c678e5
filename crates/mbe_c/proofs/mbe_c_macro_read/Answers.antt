use Rattle.std.proofs.Common.{◌∙◌, ℕ, ap, ap₂, refl, sym}
use Rattle.mbe_program.specs.Replies.Answers.{Answer, answer_of}
use Rattle.mbe_program.specs.Replies.Requests.{definition_of}
use Rattle.mbe_program.specs.Replies.KeptMacros.{rule_count}
use Rattle.mbe_program.proofs.ReplyLemmas.BareLemmas.{IsBare}
use Rattle.mbe_c.specs.declared.Reply.{Reply}
use Rattle.mbe_c.specs.Copies.{reply_to}
use Rattle.mbe_c.specs.Handles.{with_another, with_macro, without_macro}
use Rattle.mbe_c.proofs.EachLemmas.{no_expansion-bare}
use Rattle.mbe_c.proofs.GivingLemmas.{gives_message}
use Rattle.mbe_c.proofs.mbe_c_macro_read.Goals as goal

pub returns-in-Some-clause-reads : goal.returns-in-Some-clause-reads
returns-in-Some-clause-reads c =
    let a = answer_of c.empty-answer.result in
    let e = c.empty-answer.ensures in
    let bare : IsBare a = (ap (λ (x : Answer). x.tokens) e, ap (λ (x : Answer). x.text) e) in
    with_another c.in-Some.held.value (sym c.in-Some.ensures.taken) (c.put.ensures ∙ c.in-Some.ensures.taken) (
      a,
      e,
      gives_message a c.args.message.now c.copy_answer.new.message c.copy_answer.new.tokens c.copy_answer.new.text
          c.copy_answer.new.reply bare
          c.copy_answer.ensures.gives,
    )

pub returns-in-Err-clause-reads : goal.returns-in-Err-clause-reads
returns-in-Err-clause-reads c =
    let a = answer_of c.in-Err.answer in
    let r = c.args.request.now in
    let definition = definition_of r c.args.definition.now c.args.definition_tokens.now in
    let bare = no_expansion-bare r c.args.grammar.now definition a c.in-Err.ensures.fails in
    without_macro (sym c.in_default.ensures.taken) c.take.ensures.none (
      a,
      c.in-Err.ensures.fails,
      gives_message a c.args.message.now c.copy_answer-in-Err.new.message c.copy_answer-in-Err.new.tokens
          c.copy_answer-in-Err.new.text
          c.copy_answer-in-Err.new.reply bare c.copy_answer-in-Err.ensures.gives,
    )

pub returns-in-Ok-clause-reads : goal.returns-in-Ok-clause-reads
returns-in-Ok-clause-reads c =
    let done = c.reply_of.ensures ∙ ap reply_to c.empty.ensures in
    let counted = c.count-reply.ensures ∙ ap rule_count c.deref.ensures in
    with_macro (sym c.in_default.ensures.taken) c.in-Ok.read.value c.put-in-Ok.ensures c.in-Ok.ensures.read
    (ap₂ (λ (r : Reply) (n : ℕ). record r { place = n }) done counted) refl
