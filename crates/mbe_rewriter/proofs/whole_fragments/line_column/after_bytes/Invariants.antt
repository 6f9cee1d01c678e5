use Rattle.std.proofs.Common.{◌≡◌, drop}
use Rattle.mbe_rewriter.specs.WholeFragments.LineColumn as spec
use Rattle.mbe_rewriter.proofs.whole_fragments.line_column.after_bytes.Given as goal

abbrev pub invariant-loop-byte : goal.invariant-loop-byte
invariant-loop-byte l =
    spec.after_bytes l.line_column (drop l.byte-index l.bytes) ≡ spec.after_bytes l.initial.line_column l.bytes
