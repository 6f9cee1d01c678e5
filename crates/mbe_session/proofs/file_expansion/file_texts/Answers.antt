use Rattle.std.proofs.Common.{map}
use Rattle.std.specs.String.{string_bytes}
use Rattle.mbe_rewriter.specs.ReplacementViews.{part_of}
use Rattle.mbe_session.specs.FileViews.{source_of}
use Rattle.mbe_session.proofs.CrateLemmas.{nothing_becomes, one_more_becomes}
use Rattle.mbe_session.proofs.file_expansion.file_texts.Goals as goal

pub loop-number-init : goal.loop-number-init
loop-number-init c = nothing_becomes string_bytes _ _ _ c.new-texts.ensures.items

pub loop-number-preserved : goal.loop-number-preserved
loop-number-preserved c =
    one_more_becomes source_of string_bytes c.args.call (map part_of c.args.parts.now) c.args.files.now
    c.index-files-number.result c.loop-number.number c.loop-number.texts.items c.push.new.self.items
    c.in_ok-file_text.field-0 c.loop-number-test.true c.index-files-number.is c.in_ok-push.ensures.items
    c.loop-number.invariant c.in_ok-file_text.ensures
