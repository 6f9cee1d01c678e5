use Rattle.std.proofs.Common.{◌≡◌, drop}
use Rattle.mbe_rewriter.specs.Hygiene.LocalNames as spec
use Rattle.mbe_rewriter.proofs.hygiene.local_names.contains_name.Given as goal

abbrev pub invariant-loop-name : goal.invariant-loop-name
invariant-loop-name g l =
    spec.contains_name (drop l.name-index l.names) l.text
    ≡ spec.contains_name l.names l.text
