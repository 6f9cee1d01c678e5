use Rattle.mbe.proofs.NoRuleEnds.{no_rule_ends}
use Rattle.mbe.proofs.laws.no_rule_ends.Goals as goal

pub returns : goal.returns
returns c = no_rule_ends
