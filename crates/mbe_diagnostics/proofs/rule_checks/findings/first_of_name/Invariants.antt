use Rattle.std.proofs.Common.{◌≡◌, map, drop}
use Rattle.mbe_diagnostics.specs.RuleChecks.Variables.{variable_seen}
use Rattle.mbe_diagnostics.specs.RuleChecks.Findings.{finding_seen}
use Rattle.mbe_diagnostics.specs.RuleChecks.Findings as spec
use Rattle.mbe_diagnostics.proofs.rule_checks.findings.first_of_name.Given as goal

abbrev pub invariant-loop-one : goal.invariant-loop-one
invariant-loop-one l =
    spec.first_of_name l.name (map variable_seen (drop l.one-index l.bound))
    ≡ spec.first_of_name l.name (map variable_seen l.bound)
