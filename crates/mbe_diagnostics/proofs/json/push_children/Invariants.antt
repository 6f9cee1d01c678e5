use Rattle.std.proofs.Common.{◌≡◌, ◌++◌, true, drop}
use Rattle.std.specs.String.{string_bytes}
use Rattle.mbe_diagnostics.specs.Json as spec
use Rattle.mbe_diagnostics.proofs.json.push_children.Given as goal

abbrev pub invariant-loop-child : goal.invariant-loop-child
invariant-loop-child l =
    string_bytes l.text ++ spec.children_json l.is_first (drop l.child-index l.children)
    ≡ string_bytes l.initial.text ++ spec.children_json true l.children
