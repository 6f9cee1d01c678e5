use Rattle.std.proofs.Common.{List, map, drop}
use Rattle.mbe_diagnostics.specs.declared.diagnostic.Diagnostic.{Diagnostic}
use Rattle.mbe_session.specs.Explanation.{note_seen}
use Rattle.mbe_session.specs.EmittedNotes.{AreDiagnostics}
use Rattle.mbe_session.proofs.emitter.push_diagnostics.Given as goal

-- Whatever the notes that are left lead to, all notes lead to.
abbrev pub invariant-loop-note : goal.invariant-loop-note
invariant-loop-note l = (end : List Diagnostic)
    → AreDiagnostics l.files (map note_seen (drop l.note-index l.notes)) l.diagnostics.items end
    → AreDiagnostics l.files (map note_seen l.notes) l.initial.diagnostics.items end
