use Rattle.std.proofs.Common.{length}
use Rattle.mbe_markup.proofs.json.Json.+write.Given as goal

abbrev pub decreases-write : goal.decreases-write
decreases-write l = length l.pieces.now
