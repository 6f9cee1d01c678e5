use Rattle.std.proofs.Common.{◌≡◌, ◌++◌, true, drop}
use Rattle.std.specs.Prelude.{◌==◌}
use Rattle.std.specs.String.{string_bytes}
use Rattle.mbe_session.specs.EmittedNotes.{all_written}
use Rattle.mbe_session.proofs.emitter.add_all.Given as goal

abbrev pub invariant-loop-at : goal.invariant-loop-at
invariant-loop-at l =
    string_bytes l.text ++ all_written l.form (l.at == 0) (drop l.at l.diagnostics)
    ≡ string_bytes l.initial.text ++ all_written l.form true l.diagnostics
