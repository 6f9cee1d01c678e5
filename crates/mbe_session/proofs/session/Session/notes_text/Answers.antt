use Rattle.std.proofs.Common.{ap, map}
use Rattle.std.specs.String.{string_bytes}
use Rattle.mbe_session.specs.Explanation.{note_seen}
use Rattle.mbe_session.proofs.EmitterLemmas.{emitted_after}
use Rattle.mbe_session.proofs.session.Session.notes_text.Goals as goal

pub returns : goal.returns
returns c =
    emitted_after c.args.form _ _ _ _ _ _ _ _ (string_bytes c.add_notes.new.text) _ c.deref.ensures.value
    c.deref-3.ensures.value (ap (map note_seen) c.deref-2.ensures.value) (ap (map note_seen) c.deref-4.ensures.value)
    c.new-text.ensures.bytes c.in_ok-add_notes.ensures c.in_ok-add_notes-2.ensures
