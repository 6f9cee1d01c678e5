use Rattle.std.proofs.Common.{List, map, drop}
use Rattle.mbe_diagnostics.specs.declared.diagnostic.Diagnostic.{Diagnostic}
use Rattle.mbe_diagnostics.specs.Lints.Lint.{lint_seen}
use Rattle.mbe_session.specs.EmittedNotes.{AreLintDiagnostics}
use Rattle.mbe_session.proofs.emitter.push_lint_diagnostics.Given as goal

-- Whatever the lints that are left lead to, all lints lead to.
abbrev pub invariant-loop-lint : goal.invariant-loop-lint
invariant-loop-lint l = (end : List Diagnostic)
    → AreLintDiagnostics l.files (map lint_seen (drop l.lint-index l.lints)) l.diagnostics.items end
    → AreLintDiagnostics l.files (map lint_seen l.lints) l.initial.diagnostics.items end
