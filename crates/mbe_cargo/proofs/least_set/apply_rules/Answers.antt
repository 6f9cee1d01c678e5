use Rattle.std.proofs.lemmas.List.Elements.{Contains-get_or}
use Rattle.mbe_cargo.proofs.LeastSetLemmas.{rule_holds}
use Rattle.mbe_cargo.proofs.least_set.apply_rules.Goals as goal

pub loop-rule-preserved : goal.loop-rule-preserved
loop-rule-preserved c start =
    rule_holds c.args.rules.now _ c.loop-rule.marks.items c.apply_rule.new.marks.items
    (Contains-get_or c.args.rules.now c.loop-rule.rule-index _ c.loop-rule-test.true) c.apply_rule.ensures
    (c.loop-rule.invariant start)
