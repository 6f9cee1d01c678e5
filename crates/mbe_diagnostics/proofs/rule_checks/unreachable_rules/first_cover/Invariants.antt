use Rattle.std.proofs.Common.{◌≡◌, map, drop}
use Rattle.mbe_parser.specs.RuleViews.{rule_of}
use Rattle.mbe_diagnostics.specs.RuleChecks.UnreachableRules as spec
use Rattle.mbe_diagnostics.proofs.rule_checks.unreachable_rules.first_cover.Given as goal

abbrev pub invariant-loop-index : goal.invariant-loop-index
invariant-loop-index g l =
    spec.first_cover l.index (map rule_of (drop l.index l.earlier)) (rule_of l.rule)
    ≡ spec.first_cover 0 (map rule_of l.earlier) (rule_of l.rule)
