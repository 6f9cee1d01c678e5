use Rattle.std.proofs.Common.{◌≡◌, ◌++◌, chars, drop, length}
use Rattle.std.specs.String.{string_bytes}
use Rattle.mbe_markup.specs.Escapes as spec
use Rattle.mbe_markup.proofs.html.push_escaped.Given as goal

abbrev pub invariant-loop-char : goal.invariant-loop-char
invariant-loop-char l =
    string_bytes l.text ++ spec.escaped (drop (length l.yielded) (chars l.shown))
    ≡ string_bytes l.initial.text ++ spec.escaped (chars l.shown)
