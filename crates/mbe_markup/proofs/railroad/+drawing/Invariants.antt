use Rattle.std.proofs.Common.{◌+◌, ◌*◌}
use Rattle.mbe_markup.proofs.railroad.+drawing.Given as goal

abbrev pub decreases-sequence : goal.decreases-sequence
decreases-sequence l = 2 * l.levels

abbrev pub decreases-add_op : goal.decreases-add_op
decreases-add_op l = 2 * l.levels + 1
