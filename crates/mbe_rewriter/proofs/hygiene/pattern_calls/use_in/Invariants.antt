use Rattle.std.proofs.Common.{◌≡◌, map, drop}
use Rattle.mbe_rewriter.specs.Hygiene.EventViews.{word_of}
use Rattle.mbe_rewriter.specs.Hygiene.PatternCalls as spec
use Rattle.mbe_rewriter.proofs.hygiene.pattern_calls.use_in.Given as goal

abbrev pub invariant-loop-word : goal.invariant-loop-word
invariant-loop-word l =
    spec.use_in (word_of l.name) (map word_of (drop l.word-index l.words))
    ≡ spec.use_in (word_of l.name) (map word_of l.words)
