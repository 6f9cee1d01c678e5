use Rattle.std.proofs.Common.{◌≡◌, ◌++◌, map, drop}
use Rattle.mbe_diagnostics.specs.Outcome.{part_seen}
use Rattle.mbe_session.specs.Explanation.{note_seen, part_notes}
use Rattle.mbe_session.proofs.explanation.note_parts.Given as goal

abbrev pub invariant-loop-part : goal.invariant-loop-part
invariant-loop-part g l =
    map note_seen l.notes.items ++ part_notes l.rule (map (λ p. part_seen p.now) (drop l.part-index l.parts))
    ≡ map note_seen l.initial.notes.items ++ part_notes l.rule (map (λ p. part_seen p.now) l.parts)
