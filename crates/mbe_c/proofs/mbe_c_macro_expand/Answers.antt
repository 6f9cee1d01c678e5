use Rattle.std.proofs.Common.{Option, subst}
use Rattle.mbe_program.specs.Replies.Answers.{answer_of}
use Rattle.mbe_program.specs.Replies.KeptMacros.{AnswersCall}
use Rattle.mbe_c.specs.Handles.{argument_of_call, GivesAnswer}
use Rattle.mbe_c.specs.HandleOwnership.{HeldMacro}
use Rattle.mbe_c.proofs.mbe_c_macro_expand.Goals as goal

pub returns-clause-expands : goal.returns-clause-expands
returns-clause-expands c =
    let call = c.args.call.now in
    let argument = argument_of_call call c.args.argument.now c.args.argument_tokens.now in
    let a = answer_of c.expand-answer.result in
    let answers = subst (λ (m : HeldMacro). AnswersCall m call argument a) c.deref.ensures c.expand-answer.ensures in
    subst (λ (held : Option HeldMacro). GivesAnswer held call argument
    (record { tokens = c.args.tokens.now; text = c.args.text.now; message = c.args.message.now })
    (record {
      tokens = c.copy_answer-2.new.tokens;
      text = c.copy_answer-2.new.text;
      message =
          c.copy_answer-2.new.message;
    })
    c.copy_answer-2.new.reply) c.in-Some.ensures.taken (a, answers, c.copy_answer-2.ensures.gives)
