use Rattle.std.proofs.Common.{◌≡◌, map, drop}
use Rattle.mbe_matcher.specs.Commitment.{any_fails_inside}
use Rattle.mbe_matcher.specs.Expected.{expected_seen}
use Rattle.mbe_matcher.proofs.commitment.any_fails_inside.Given as goal

abbrev pub invariant-loop-next : goal.invariant-loop-next
invariant-loop-next g l =
    any_fails_inside (g.G.FragmentGrammar.grammar l.grammar) l.here (map expected_seen l.expected)
    ≡ any_fails_inside (g.G.FragmentGrammar.grammar l.grammar) l.here (map expected_seen (drop l.next-index l.expected))
