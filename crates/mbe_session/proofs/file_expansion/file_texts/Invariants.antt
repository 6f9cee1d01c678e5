use Rattle.std.proofs.Common.{map, take}
use Rattle.std.specs.String.{string_bytes}
use Rattle.mbe_rewriter.specs.ReplacementViews.{part_of}
use Rattle.mbe_session.specs.FileExpansion.{FilesExpand}
use Rattle.mbe_session.specs.FileViews.{source_of}
use Rattle.mbe_session.proofs.file_expansion.file_texts.Given as goal

abbrev pub invariant-loop-number : goal.invariant-loop-number
invariant-loop-number l =
    FilesExpand l.call (map part_of l.parts) (map source_of (take l.number l.files)) (map string_bytes l.texts.items)
