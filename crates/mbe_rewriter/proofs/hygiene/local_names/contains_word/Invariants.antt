use Rattle.std.proofs.Common.{◌≡◌, map, drop}
use Rattle.mbe_rewriter.specs.Hygiene.EventViews.{word_of}
use Rattle.mbe_rewriter.specs.Hygiene.LocalNames as spec
use Rattle.mbe_rewriter.proofs.hygiene.local_names.contains_word.Given as goal

abbrev pub invariant-loop-one : goal.invariant-loop-one
invariant-loop-one l =
    spec.contains_word (map word_of (drop l.one-index l.words)) (word_of l.word)
    ≡ spec.contains_word (map word_of l.words) (word_of l.word)
