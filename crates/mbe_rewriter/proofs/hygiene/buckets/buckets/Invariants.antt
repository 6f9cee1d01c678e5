use Rattle.std.proofs.Common.{◌≡◌, map}
use Rattle.mbe_rewriter.specs.Hygiene.EventViews.{word_of}
use Rattle.mbe_rewriter.specs.Hygiene.Buckets as spec
use Rattle.mbe_rewriter.proofs.hygiene.buckets.buckets.Given as goal

abbrev pub invariant-loop-number : goal.invariant-loop-number
invariant-loop-number g l = spec.buckets_of l.found.items ≡ spec.buckets (map word_of l.words) l.number
