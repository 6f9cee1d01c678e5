use Rattle.std.proofs.Common.{◌≡◌, ◌++◌, map, drop}
use Rattle.mbe_ops.specs.Views.{separator_seen}
use Rattle.mbe_diagnostics.specs.RuleChecks.Findings.{finding_seen}
use Rattle.mbe_diagnostics.specs.RuleChecks.Findings as spec
use Rattle.mbe_diagnostics.proofs.rule_checks.findings.push_separated.Given as goal

abbrev pub invariant-loop-one : goal.invariant-loop-one
invariant-loop-one g l =
    map finding_seen l.found.items
    ++ map spec.separated_optional (map (λ s. separator_seen s.now) (drop l.one-index l.all))
    ≡ map finding_seen l.initial.found.items
    ++ map spec.separated_optional (map (λ s. separator_seen s.now) l.all)
