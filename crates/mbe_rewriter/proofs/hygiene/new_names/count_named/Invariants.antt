use Rattle.std.proofs.Common.{◌≡◌, ◌≤◌, ◌+◌, map, drop}
use Rattle.mbe_rewriter.specs.Hygiene.EventViews.{naming_of}
use Rattle.mbe_rewriter.specs.Hygiene.LocalNames as spec
use Rattle.mbe_rewriter.proofs.hygiene.new_names.count_named.Given as goal

abbrev pub invariant-loop-one : goal.invariant-loop-one
invariant-loop-one g l =
    (l.count + spec.count_named (map naming_of (drop l.one-index l.given)) l.text
    ≡ spec.count_named (map naming_of l.given) l.text)
    × (l.count ≤ l.one-index)
