use Rattle.std.proofs.Common.{refl}
use Rattle.mbe_text.proofs.Attributes.{puts_both}
use Rattle.mbe_text.proofs.lexer.add_doc.Goals as goal

pub returns : goal.returns
returns g c =
    puts_both c.add_doc_group.result _ _ _ c.args.builder.now c.add_doc_marks.new.builder c.add_doc_group.new.builder
    c.in_ok-add_doc_marks.ensures c.add_doc_group.ensures refl
