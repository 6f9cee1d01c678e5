use Rattle.std.proofs.Common.{ap, map}
use Rattle.std.specs.String.{string_bytes}
use Rattle.mbe_diagnostics.specs.Lints.Lint.{lint_seen}
use Rattle.mbe_session.specs.Explanation.{note_seen}
use Rattle.mbe_session.proofs.EmitterLemmas.{emitted_with_lints}
use Rattle.mbe_session.proofs.linted_files.LintedFiles.notes_text.Goals as goal

pub returns : goal.returns
returns c =
    emitted_with_lints c.args.form c.unwrap_or-form.result _ _ _ _ _ _ _ _ (string_bytes c.add_notes.new.text) _
    c.deref.ensures.value c.deref-3.ensures.value (ap (map note_seen) c.deref-2.ensures.value)
    (ap (map lint_seen) c.deref-4.ensures.value) c.new-text.ensures.bytes c.unwrap_or-form.ensures
    c.in_ok-add_notes.ensures c.in_ok-add_lints.ensures
