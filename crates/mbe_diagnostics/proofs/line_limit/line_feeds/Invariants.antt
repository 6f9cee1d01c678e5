use Rattle.std.proofs.Common.{◌≡◌, ◌≤◌, ◌+◌, drop}
use Rattle.mbe_diagnostics.specs.LineLimit as spec
use Rattle.mbe_diagnostics.proofs.line_limit.line_feeds.Given as goal

-- The number of bytes so far bounds the number of their line feeds.
abbrev pub invariant-loop-byte : goal.invariant-loop-byte
invariant-loop-byte l =
    (l.count + spec.line_feeds (drop l.byte-index l.bytes) ≡ spec.line_feeds l.bytes)
    × (l.count ≤ l.byte-index)
