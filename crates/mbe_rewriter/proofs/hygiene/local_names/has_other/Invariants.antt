use Rattle.std.proofs.Common.{◌≡◌, map, drop}
use Rattle.mbe_rewriter.specs.Hygiene.EventViews.{word_of}
use Rattle.mbe_rewriter.specs.Hygiene.LocalNames as spec
use Rattle.mbe_rewriter.proofs.hygiene.local_names.has_other.Given as goal

abbrev pub invariant-loop-one : goal.invariant-loop-one
invariant-loop-one l =
    spec.has_other (map word_of (drop l.one-index l.words)) (word_of l.word)
    ≡ spec.has_other (map word_of l.words) (word_of l.word)
