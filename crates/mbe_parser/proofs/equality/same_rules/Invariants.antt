use Rattle.std.proofs.Common.{◌↔◌, drop}
use Rattle.mbe_ops.specs.Equality.{AreSameRules}
use Rattle.mbe_parser.specs.RuleViews.{rules_seen}
use Rattle.mbe_parser.proofs.equality.same_rules.Given as goal

abbrev pub invariant-loop-rule : goal.invariant-loop-rule
invariant-loop-rule g l =
    AreSameRules (rules_seen l.fn.one) (rules_seen l.fn.two)
    ↔ AreSameRules (rules_seen (drop l.rule-index l.one)) (rules_seen l.rest)
