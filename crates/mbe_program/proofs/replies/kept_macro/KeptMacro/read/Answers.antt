use Rattle.std.proofs.Common.{refl}
use Rattle.mbe_program.specs.declared.replies.answer.RequestPart.TheVariants as parts
use Rattle.mbe_program.specs.Replies.Answers.{answer_of}
use Rattle.mbe_program.specs.Replies.Requests.{source_of}
use Rattle.mbe_program.proofs.ReplyLemmas.KeptLemmas.{kept_of, unread_of}
use Rattle.mbe_program.proofs.replies.kept_macro.KeptMacro.read.Goals as goal

pub returns-in-Ok-copy_grammar-clause-kept : goal.returns-in-Ok-copy_grammar-clause-kept
returns-in-Ok-copy_grammar-clause-kept g c =
    kept_of c.args.request.now c.args.grammar.now (source_of c.args.definition) c.in-Ok.found _ c.in-Ok.ensures.read
    refl refl c.in-Ok-copy_grammar.ensures

pub returns-clause-fails : goal.returns-clause-fails
returns-clause-fails g c =
    unread_of c.args.request.now c.args.grammar.now (source_of c.args.definition) c.in-Ok.found
    (answer_of c.empty.result) parts.None c.in-Ok.ensures.read c.empty.ensures
