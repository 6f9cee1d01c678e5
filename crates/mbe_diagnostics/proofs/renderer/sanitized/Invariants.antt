use Rattle.std.proofs.Common.{◌≡◌, ◌++◌, chars, drop, length}
use Rattle.std.specs.String.{string_bytes}
use Rattle.mbe_diagnostics.specs.Diagnostics as spec
use Rattle.mbe_diagnostics.proofs.renderer.sanitized.Given as goal

abbrev pub invariant-loop-char : goal.invariant-loop-char
invariant-loop-char g l =
    string_bytes l.sanitized ++ spec.sanitized (drop (length l.yielded) (chars l.text)) ≡ spec.sanitized (chars l.text)
