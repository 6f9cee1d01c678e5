use Rattle.std.proofs.Common.{◌≡◌, ◌++◌, map, drop}
use Rattle.mbe_session.specs.Explanation.{note_seen}
use Rattle.mbe_session.specs.Faults.{all_noted}
use Rattle.mbe_session.specs.SessionViews.{setting_of, state_of}
use Rattle.mbe_session.proofs.file_expander.FileExpander.note_definitions.Given as goal

abbrev pub invariant-loop-number : goal.invariant-loop-number
invariant-loop-number g l =
    (map note_seen l.self.notes.items ++ all_noted (drop l.number (state_of l.initial.self).scope.definitions)
    ≡ map note_seen l.initial.self.notes.items ++ all_noted (drop l.first (state_of l.initial.self).scope.definitions))
    × (state_of l.self ≡ state_of l.initial.self)
    × (setting_of l.self ≡ setting_of l.initial.self)
