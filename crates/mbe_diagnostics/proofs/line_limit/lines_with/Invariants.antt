use Rattle.std.proofs.Common.{◌≡◌, drop}
use Rattle.mbe_diagnostics.specs.LineLimit as spec
use Rattle.mbe_diagnostics.proofs.line_limit.lines_with.Given as goal

abbrev pub invariant-loop-child : goal.invariant-loop-child
invariant-loop-child l =
    spec.lines_with l.lines (drop l.child-index l.children) ≡ spec.lines_with l.initial.lines l.children
