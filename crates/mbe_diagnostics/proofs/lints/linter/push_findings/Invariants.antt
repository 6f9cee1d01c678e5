use Rattle.std.proofs.Common.{◌≡◌, ◌++◌, map, drop}
use Rattle.mbe_rewriter.specs.MacroItemViews.{macro_definition_shown}
use Rattle.mbe_diagnostics.specs.RuleChecks.Findings.{finding_seen}
use Rattle.mbe_diagnostics.specs.Lints.Lint.{lint_seen}
use Rattle.mbe_diagnostics.specs.Lints.FindingMessages.{findings_lints}
use Rattle.mbe_diagnostics.proofs.lints.linter.push_findings.Given as goal

abbrev pub invariant-loop-one : goal.invariant-loop-one
invariant-loop-one g l =
    map lint_seen l.lints.items
    ++ findings_lints (macro_definition_shown l.defined) (map finding_seen (drop l.one-index l.found))
    ≡ map lint_seen l.initial.lints.items
    ++ findings_lints (macro_definition_shown l.defined) (map finding_seen l.found)
