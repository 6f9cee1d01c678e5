use Rattle.std.proofs.Common.{◌≡◌, ◌++◌, map, drop}
use Rattle.mbe_session.specs.Explanation.{note_seen, explanation_seen, rules_notes}
use Rattle.mbe_session.proofs.explanation.note_rules.Given as goal

abbrev pub invariant-loop-explanation : goal.invariant-loop-explanation
invariant-loop-explanation g l =
    map note_seen l.notes.items ++ rules_notes l.name l.is_child l.chosen l.number
    (map explanation_seen (drop l.explanation-index l.explanations))
    ≡ map note_seen l.initial.notes.items
    ++ rules_notes l.name l.is_child l.chosen l.initial.number (map explanation_seen l.explanations)
