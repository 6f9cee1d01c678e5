use Rattle.std.proofs.Common.{◌≡◌, ◌++◌, map, drop}
use Rattle.mbe_rewriter.specs.Hygiene.EventViews.{word_of}
use Rattle.mbe_rewriter.specs.Hygiene.Buckets as spec
use Rattle.mbe_rewriter.proofs.hygiene.buckets.bucket.Given as goal

abbrev pub invariant-loop-word : goal.invariant-loop-word
invariant-loop-word g l =
    map word_of l.found.items ++ spec.bucket l.number (map word_of (drop l.word-index l.words))
    ≡ spec.bucket l.number (map word_of l.words)
