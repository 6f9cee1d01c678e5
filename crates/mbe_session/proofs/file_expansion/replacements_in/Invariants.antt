use Rattle.std.proofs.Common.{◌≡◌, map, take}
use Rattle.mbe_rewriter.specs.ReplacementViews.{part_of}
use Rattle.mbe_session.specs.FileExpansion.{replacements_in}
use Rattle.mbe_session.proofs.file_expansion.replacements_in.Given as goal

abbrev pub invariant-loop-part : goal.invariant-loop-part
invariant-loop-part l =
    map part_of l.found.items ≡ replacements_in l.number (map part_of (take l.part-index l.parts))
