use Rattle.std.proofs.Common.{◌≡◌, ◌++◌, map, drop}
use Rattle.mbe_ops.specs.Views.{template_of}
use Rattle.mbe_diagnostics.specs.RuleChecks.Variables.{variable_seen, use_seen}
use Rattle.mbe_diagnostics.specs.RuleChecks.Findings.{finding_seen}
use Rattle.mbe_diagnostics.specs.RuleChecks.Findings as spec
use Rattle.mbe_diagnostics.proofs.rule_checks.findings.push_unused.Given as goal

abbrev pub invariant-loop-one : goal.invariant-loop-one
invariant-loop-one g l =
    map finding_seen l.found.items ++ spec.unused l.misspelt (template_of l.template) (map use_seen l.used)
    (map variable_seen (drop l.one-index l.bound))
    ≡ map finding_seen l.initial.found.items ++ spec.unused l.misspelt (template_of l.template) (map use_seen l.used)
    (map variable_seen l.bound)
