use Rattle.std.proofs.Common.{◌≡◌, ◌++◌, map, drop}
use Rattle.mbe_rewriter.specs.Hygiene.EventViews.{word_of}
use Rattle.mbe_rewriter.specs.Hygiene.LocalNames as spec
use Rattle.mbe_rewriter.specs.declared.hygiene.local_names.BindingState.TheVariants.{Unbound}
use Rattle.mbe_rewriter.proofs.hygiene.local_names.push_undecided_uses.Given as goal

abbrev pub invariant-loop-word : goal.invariant-loop-word
invariant-loop-word g l =
    l.found.items ++ spec.undecided_uses (word_of l.local) l.progress (map word_of (drop l.word-index l.words))
    ≡ l.initial.found.items ++ spec.undecided_uses (word_of l.local) Unbound (map word_of l.words)
