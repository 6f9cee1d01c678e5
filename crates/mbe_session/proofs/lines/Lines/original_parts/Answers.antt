use Rattle.mbe_rewriter.specs.ReplacementViews.{part_of}
use Rattle.mbe_session.specs.LineEndings.{original_part}
use Rattle.mbe_session.proofs.ReturnLemmas.{one_more_placed}
use Rattle.mbe_session.proofs.lines.Lines.original_parts.Goals as goal

pub loop-replacement-preserved : goal.loop-replacement-preserved
loop-replacement-preserved g c =
    one_more_placed part_of (original_part c.args.self.now.returns.items) c.args.replacements.now
    c.loop-replacement.original_parts.items c.push.new.self.items
    c.in_ok-original_one.field-0 c.replacement-item.result c.loop-replacement.replacement-index
    c.loop-replacement-test.true c.replacement-item.is
    c.in_ok-push.ensures.items c.loop-replacement.invariant c.in_ok-original_one.ensures
