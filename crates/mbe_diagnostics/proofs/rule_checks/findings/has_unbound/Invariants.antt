use Rattle.std.proofs.Common.{◌≡◌, map, drop}
use Rattle.mbe_diagnostics.specs.RuleChecks.Variables.{variable_seen, use_seen}
use Rattle.mbe_diagnostics.specs.RuleChecks.Findings as spec
use Rattle.mbe_diagnostics.proofs.rule_checks.findings.has_unbound.Given as goal

abbrev pub invariant-loop-one : goal.invariant-loop-one
invariant-loop-one l =
    spec.has_unbound (map variable_seen l.bound) (map use_seen (drop l.one-index l.used))
    ≡ spec.has_unbound (map variable_seen l.bound) (map use_seen l.used)
