use Rattle.std.proofs.Common.{◌≡◌, drop}
use Rattle.mbe_diagnostics.specs.Diagnostics as spec
use Rattle.mbe_diagnostics.proofs.renderer.widest.Given as goal

abbrev pub invariant-loop-child : goal.invariant-loop-child
invariant-loop-child g l =
    spec.widest l.width (drop l.child-index l.children) ≡ spec.widest l.initial.width l.children
