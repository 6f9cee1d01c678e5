use Rattle.std.proofs.Common.{◌≡◌, ◌++◌, map, drop}
use Rattle.mbe_matcher.specs.Expected.{expected_seen}
use Rattle.mbe_diagnostics.specs.Outcome.{part_of, part_seen}
use Rattle.mbe_diagnostics.proofs.outcome.parts.Given as goal

abbrev pub invariant-loop-one : goal.invariant-loop-one
invariant-loop-one g l =
    map part_seen l.parts.items ++ map part_of (map expected_seen (drop l.one-index l.expected))
    ≡ map part_of (map expected_seen l.expected)
