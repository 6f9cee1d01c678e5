use Rattle.std.proofs.Common.{◌≡◌, take}
use Rattle.mbe_parser.specs.RuleViews.{rules_seen}
use Rattle.mbe_parser.proofs.equality.clone_rules.Given as goal

abbrev pub invariant-loop-rule : goal.invariant-loop-rule
invariant-loop-rule g l = rules_seen l.copy.items ≡ rules_seen (take l.rule-index l.rules)
