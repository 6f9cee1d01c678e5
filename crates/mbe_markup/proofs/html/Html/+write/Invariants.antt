use Rattle.std.proofs.Common.{length}
use Rattle.mbe_markup.proofs.html.Html.+write.Given as goal

abbrev pub decreases-write : goal.decreases-write
decreases-write l = length l.parts.now
