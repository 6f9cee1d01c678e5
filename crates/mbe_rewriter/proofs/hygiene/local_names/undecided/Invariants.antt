use Rattle.std.proofs.Common.{◌≡◌, ◌++◌, map, drop}
use Rattle.mbe_rewriter.specs.Hygiene.EventViews.{word_of}
use Rattle.mbe_rewriter.specs.Hygiene.LocalNames as spec
use Rattle.mbe_rewriter.proofs.hygiene.local_names.undecided.Given as goal

abbrev pub invariant-loop-local : goal.invariant-loop-local
invariant-loop-local g l =
    l.found.items ++ spec.undecided_of (map word_of l.words) l.names (map word_of (drop l.local-index l.locals))
    ≡ spec.undecided_of (map word_of l.words) l.names (map word_of l.locals)
