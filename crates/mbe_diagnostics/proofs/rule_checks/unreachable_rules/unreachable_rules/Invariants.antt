use Rattle.std.proofs.Common.{◌≡◌, ◌++◌, map, drop, take, []}
use Rattle.mbe_parser.specs.RuleViews.{rule_of}
use Rattle.mbe_diagnostics.specs.RuleChecks.UnreachableRules as spec
use Rattle.mbe_diagnostics.proofs.rule_checks.unreachable_rules.unreachable_rules.Given as goal

abbrev pub invariant-loop-index : goal.invariant-loop-index
invariant-loop-index g l =
    l.found.items ++ spec.unreachable_after (map rule_of (take l.index l.rules)) (map rule_of (drop l.index l.rules))
    ≡ spec.unreachable_after [] (map rule_of l.rules)
