use Rattle.std.proofs.Common.{◌≡◌, ◌++◌, map, drop}
use Rattle.mbe_diagnostics.specs.RuleChecks.Variables.{variable_seen}
use Rattle.mbe_diagnostics.specs.RuleChecks.Findings.{names_of_variables}
use Rattle.mbe_diagnostics.proofs.rule_checks.findings.names_of.Given as goal

abbrev pub invariant-loop-one : goal.invariant-loop-one
invariant-loop-one g l =
    map (λ s. s.now) l.names.items ++ names_of_variables (map variable_seen (drop l.one-index l.bound))
    ≡ names_of_variables (map variable_seen l.bound)
