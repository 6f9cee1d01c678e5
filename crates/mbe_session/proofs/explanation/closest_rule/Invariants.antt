use Rattle.std.proofs.Common.{◌≡◌, map, drop}
use Rattle.mbe_session.specs.Explanation.{closest_from, explanation_seen}
use Rattle.mbe_session.proofs.explanation.closest_rule.Given as goal

abbrev pub invariant-loop-explanation : goal.invariant-loop-explanation
invariant-loop-explanation g l =
    closest_from l.number l.closest l.furthest
    (map explanation_seen (drop l.explanation-index l.explanations))
    ≡ closest_from 1 1 0 (map explanation_seen l.explanations)
