-- The value of a replacement in the specification, independent of its allocator.
use Rattle.std.specs.String.{string_bytes}
use Rattle.mbe_rewriter.specs.Splice.{SplicedPart}
use Rattle.mbe_rewriter.specs.declared.splice.Replacement.{Replacement}

abbrev pub part_of : {A : Type 0} → Replacement A → SplicedPart
part_of r = record { file = r.file; start = r.start; end = r.end; text = string_bytes r.text }
