use Rattle.std.proofs.Common.{◌≡◌, ◌++◌, chars, drop, length}
use Rattle.std.specs.String.{string_bytes}
use Rattle.mbe_diagnostics.specs.Excerpt as spec
use Rattle.mbe_diagnostics.proofs.excerpt.excerpt.Given as goal

abbrev pub invariant-loop-char : goal.invariant-loop-char
invariant-loop-char g l =
    string_bytes l.shown ++ spec.excerpt_in l.room l.at_start (drop (length l.yielded) (chars l.text))
    ≡ spec.excerpt (chars l.text)
