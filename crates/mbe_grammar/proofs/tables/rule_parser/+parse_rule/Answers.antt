use Rattle.std.proofs.Common.{rules, refl, sym, ◌∙◌}
use Rattle.mbe_grammar.specs.Tables.Rule.{times}
use Rattle.mbe_grammar.proofs.TakesLemmas.{takes_one_less, times_on}
use Rattle.mbe_grammar.proofs.tables.rule_parser.+parse_rule.Goals as goal

pub parse_rule-returns-in-Some : goal.parse_rule-returns-in-Some
parse_rule-returns-in-Some g t c =
    takes_one_less c.args.table.now c.args.depth c.args.rule _ _ _ (search rules) (sym c.in-Some.is ∙ c.node_at.ensures)
    c.parse_node.ensures

pub parse_rule-returns-in-None : goal.parse_rule-returns-in-None
parse_rule-returns-in-None g t c =
    takes_one_less c.args.table.now c.args.depth c.args.rule _ _ _ (search rules) (sym c.in-None.is ∙ c.node_at.ensures)
    refl

pub repeated-turns-preserved : goal.repeated-turns-preserved
repeated-turns-preserved g t c = sym (times_on c.turns.left _ _ _ (search rules) (search rules)) ∙ c.turns.invariant

pub repeated-returns-in-Err-NoMatch : goal.repeated-returns-in-Err-NoMatch
unfolding times
repeated-returns-in-Err-NoMatch g t c = search rules

pub repeated-returns-in-Err-Fault : goal.repeated-returns-in-Err-Fault
unfolding times
repeated-returns-in-Err-Fault g t c = search rules

pub repeated-returns : goal.repeated-returns
unfolding times
repeated-returns g t c = search rules
