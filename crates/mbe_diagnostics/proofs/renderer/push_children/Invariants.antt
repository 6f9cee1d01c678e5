use Rattle.std.proofs.Common.{◌≡◌, ◌++◌, drop}
use Rattle.std.specs.String.{string_bytes}
use Rattle.mbe_diagnostics.specs.Diagnostics as spec
use Rattle.mbe_diagnostics.proofs.renderer.push_children.Given as goal

abbrev pub invariant-loop-child : goal.invariant-loop-child
invariant-loop-child g l =
    string_bytes l.text ++ spec.children_text l.width (drop l.child-index l.children) l.is_coloured
    ≡ string_bytes l.initial.text ++ spec.children_text l.width l.children l.is_coloured
