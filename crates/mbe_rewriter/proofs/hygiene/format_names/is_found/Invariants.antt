use Rattle.std.proofs.Common.{◌≡◌, drop, map}
use Rattle.mbe_rewriter.specs.Hygiene.FormatNames as spec
use Rattle.mbe_rewriter.proofs.hygiene.format_names.is_found.Given as goal

abbrev pub invariant-loop-one : goal.invariant-loop-one
invariant-loop-one l =
    spec.is_found (map (λ t. t.now) (drop l.one-index l.found)) l.name
    ≡ spec.is_found (map (λ t. t.now) l.found) l.name
