use Rattle.std.proofs.Common.{map}
use Rattle.mbe_session.specs.Explanation.{note_seen}
use Rattle.mbe_session.proofs.EmitterLemmas.{notes_emitted}
use Rattle.mbe_session.proofs.emitter.add_diagnostics.Goals as goal

pub returns : goal.returns
returns c =
    notes_emitted c.args.form c.args.files.now (map note_seen c.args.notes.now) _ _ _ _ _
    c.new-diagnostics.ensures.items
    c.in_ok-push_diagnostics.ensures c.as_slice.ensures.value c.in_ok-add_all.ensures
