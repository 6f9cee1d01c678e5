use Rattle.std.proofs.Common.{◌+◌, ◌*◌}
use Rattle.mbe_markup.proofs.rule_sites.+searching.Given as goal

abbrev pub decreases-definition_in : goal.decreases-definition_in
decreases-definition_in l = 2 * l.levels + 1

abbrev pub decreases-definition_at : goal.decreases-definition_at
decreases-definition_at l = 2 * l.levels
