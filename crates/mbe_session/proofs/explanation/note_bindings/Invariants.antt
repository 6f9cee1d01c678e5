use Rattle.std.proofs.Common.{◌≡◌, ◌++◌, map, drop}
use Rattle.mbe_session.specs.Explanation.{note_seen, binding_notes}
use Rattle.mbe_session.specs.BindingText.{binding_text_seen}
use Rattle.mbe_session.proofs.explanation.note_bindings.Given as goal

abbrev pub invariant-loop-one : goal.invariant-loop-one
invariant-loop-one g l =
    map note_seen l.notes.items ++ binding_notes l.rule (map binding_text_seen (drop l.one-index l.matched))
    ≡ map note_seen l.initial.notes.items ++ binding_notes l.rule (map binding_text_seen l.matched)
