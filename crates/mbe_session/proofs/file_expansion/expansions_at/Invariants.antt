use Rattle.std.proofs.Common.{map, take}
use Rattle.std.specs.String.{string_bytes}
use Rattle.mbe_rewriter.specs.ReplacementViews.{part_of}
use Rattle.mbe_session.specs.FileExpansion.{ExpansionsAt}
use Rattle.mbe_session.proofs.file_expansion.expansions_at.Given as goal

abbrev pub invariant-loop-replacement : goal.invariant-loop-replacement
invariant-loop-replacement l =
    ExpansionsAt l.position (string_bytes l.lines.text) (map part_of (take l.replacement-index l.replacements))
    (string_bytes l.found)
