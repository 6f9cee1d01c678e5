use Rattle.std.proofs.Common.{◌≡◌, map, drop}
use Rattle.mbe_rewriter.specs.Hygiene.EventViews.{word_of}
use Rattle.mbe_rewriter.specs.Hygiene.LocalNames as spec
use Rattle.mbe_rewriter.specs.declared.hygiene.local_names.BindingState.TheVariants.{Unbound}
use Rattle.mbe_rewriter.proofs.hygiene.local_names.is_met.Given as goal

abbrev pub invariant-loop-word : goal.invariant-loop-word
invariant-loop-word g l =
    spec.is_met l.names (word_of l.local) l.progress (map word_of (drop l.word-index l.words))
    ≡ spec.is_met l.names (word_of l.local) Unbound (map word_of l.words)
