use Rattle.std.proofs.Common.{◌≡◌, ◌++◌}
use Rattle.std.specs.String.{string_bytes}
use Rattle.mbe_text.specs.RustText.Gaps.{indent}
use Rattle.mbe_text.proofs.rust_printer.indent.Given as goal

abbrev pub invariant-spaces : goal.invariant-spaces
invariant-spaces g l = string_bytes l.text ++ indent l.left ≡ string_bytes l.initial.text ++ indent l.depth

abbrev pub decreases-spaces : goal.decreases-spaces
decreases-spaces g l = l.left
