use Rattle.std.proofs.Common.{◌≡◌, ◌++◌, map, drop}
use Rattle.mbe_diagnostics.specs.RuleChecks.FollowCheck.{violation_seen}
use Rattle.mbe_diagnostics.specs.RuleChecks.Findings.{finding_seen}
use Rattle.mbe_diagnostics.specs.RuleChecks.Findings as spec
use Rattle.mbe_diagnostics.proofs.rule_checks.findings.push_forbidden.Given as goal

abbrev pub invariant-loop-one : goal.invariant-loop-one
invariant-loop-one g l =
    map finding_seen l.found.items ++ map spec.forbidden (map violation_seen (drop l.one-index l.all))
    ≡ map finding_seen l.initial.found.items ++ map spec.forbidden (map violation_seen l.all)
