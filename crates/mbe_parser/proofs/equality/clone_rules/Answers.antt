use Rattle.mbe_ops.proofs.EqualityLemmas.{one_copied}
use Rattle.mbe_parser.specs.RuleViews.{rule_of}
use Rattle.mbe_parser.proofs.equality.clone_rules.Goals as goal

pub loop-rule-preserved : goal.loop-rule-preserved
loop-rule-preserved g c =
    one_copied rule_of c.loop-rule.copy.items c.push.new.self.items c.args.rules.now c.loop-rule.rule-index
    c.rule-item.result c.in_ok-rule.rule
    c.loop-rule-test.true c.rule-item.is c.in_ok-push.ensures.items c.in_ok-rule.ensures c.loop-rule.invariant
