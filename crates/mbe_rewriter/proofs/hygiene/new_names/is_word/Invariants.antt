use Rattle.std.proofs.Common.{◌≡◌, map, drop}
use Rattle.mbe_rewriter.specs.Hygiene.EventViews.{word_of}
use Rattle.mbe_rewriter.specs.Hygiene.LocalNames as spec
use Rattle.mbe_rewriter.proofs.hygiene.new_names.is_word.Given as goal

abbrev pub invariant-loop-word : goal.invariant-loop-word
invariant-loop-word l =
    spec.is_word (map word_of (drop l.word-index l.words)) l.text
    ≡ spec.is_word (map word_of l.words) l.text
