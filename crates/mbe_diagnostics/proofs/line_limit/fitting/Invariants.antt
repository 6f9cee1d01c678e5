use Rattle.std.proofs.Common.{◌≡◌, ◌+◌, drop}
use Rattle.mbe_diagnostics.specs.LineLimit as spec
use Rattle.mbe_diagnostics.proofs.line_limit.fitting.Given as goal

-- All children so far fit.
abbrev pub invariant-loop-child : goal.invariant-loop-child
invariant-loop-child l =
    (l.count + spec.fitting l.limit l.lines (drop l.child-index l.children)
    ≡ spec.fitting l.limit l.initial.lines l.children)
    × (l.count ≡ l.child-index)
