use Rattle.std.proofs.Common.{◌≡◌, ◌++◌, map, drop, take, []}
use Rattle.mbe_diagnostics.specs.RuleChecks.Variables.{variable_seen}
use Rattle.mbe_diagnostics.specs.RuleChecks.Findings.{finding_seen}
use Rattle.mbe_diagnostics.specs.RuleChecks.Findings as spec
use Rattle.mbe_diagnostics.proofs.rule_checks.findings.push_duplicates.Given as goal

abbrev pub invariant-loop-index : goal.invariant-loop-index
invariant-loop-index g l =
    map finding_seen l.found.items
    ++ spec.duplicates (map variable_seen (take l.index l.bound)) (map variable_seen (drop l.index l.bound))
    ≡ map finding_seen l.initial.found.items ++ spec.duplicates [] (map variable_seen l.bound)
