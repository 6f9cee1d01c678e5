use Rattle.std.proofs.Common.{map}
use Rattle.mbe_session.specs.Explanation.{note_seen}
use Rattle.mbe_session.proofs.FaultLemmas.{two_noted}
use Rattle.mbe_session.proofs.file_expander.FileExpander.note_refused.Goals as goal

pub returns-clause-notes : goal.returns-clause-notes
returns-clause-notes g c =
    two_noted c.note_defined_at.result (map note_seen c.args.self.now.notes.items)
    (map note_seen c.note.new.self.notes.items) (map note_seen c.note_defined_at.new.self.notes.items) _ _
    c.in_ok-note.ensures.notes c.note_defined_at.ensures.notes
