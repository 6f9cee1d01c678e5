use Rattle.std.proofs.Common.{◌≡◌, map, take}
use Rattle.mbe_rewriter.specs.ReplacementViews.{part_of}
use Rattle.mbe_session.specs.LineEndings.{original_part}
use Rattle.mbe_session.proofs.lines.Lines.original_parts.Given as goal

abbrev pub invariant-loop-replacement : goal.invariant-loop-replacement
invariant-loop-replacement g l =
    map part_of l.original_parts.items ≡ map (original_part l.fn.self.returns.items)
    (map part_of (take l.replacement-index l.replacements))
