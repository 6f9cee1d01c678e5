use Rattle.std.proofs.Common.{◌+◌, ◌*◌}
use Rattle.mbe_page.proofs.frames.Frames.+binding.Given as goal

abbrev pub decreases-rounds : goal.decreases-rounds
decreases-rounds l = 2 * l.levels + 1

abbrev pub decreases-binding : goal.decreases-binding
decreases-binding l = 2 * l.levels
