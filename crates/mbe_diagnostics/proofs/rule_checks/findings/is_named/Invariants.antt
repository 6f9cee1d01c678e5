use Rattle.std.proofs.Common.{◌≡◌, map, drop}
use Rattle.mbe_diagnostics.specs.RuleChecks.Variables.{use_seen}
use Rattle.mbe_diagnostics.specs.RuleChecks.Findings.{finding_seen}
use Rattle.mbe_diagnostics.specs.RuleChecks.Findings as spec
use Rattle.mbe_diagnostics.proofs.rule_checks.findings.is_named.Given as goal

abbrev pub invariant-loop-one : goal.invariant-loop-one
invariant-loop-one l =
    spec.is_named l.name (map use_seen (drop l.one-index l.used))
    ≡ spec.is_named l.name (map use_seen l.used)
