use Rattle.std.proofs.Common.{◌+◌, ◌*◌}
use Rattle.mbe_page.proofs.cards.+cards.Given as goal

abbrev pub decreases-write_card : goal.decreases-write_card
decreases-write_card l = 4 * l.levels + 3

abbrev pub decreases-write_expansion : goal.decreases-write_expansion
decreases-write_expansion l = 4 * l.levels + 2

abbrev pub decreases-write_children : goal.decreases-write_children
decreases-write_children l = 4 * l.levels + 1

abbrev pub decreases-write_child : goal.decreases-write_child
decreases-write_child l = 4 * l.levels
