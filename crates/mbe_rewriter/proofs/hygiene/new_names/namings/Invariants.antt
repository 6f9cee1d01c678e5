use Rattle.std.proofs.Common.{◌≡◌, [], map, drop}
use Rattle.mbe_rewriter.specs.Hygiene.EventViews.{word_of, naming_of}
use Rattle.mbe_rewriter.specs.Hygiene.LocalNames as spec
use Rattle.mbe_rewriter.proofs.hygiene.new_names.namings.Given as goal

abbrev pub invariant-loop-local : goal.invariant-loop-local
invariant-loop-local g l =
    (spec.names_from (map word_of l.words) l.names (map naming_of l.given.items)
    (map word_of (drop l.local-index l.locals))
    ≡ spec.names_from (map word_of l.words) l.names [] (map word_of l.locals))
    × spec.AreTaken (map word_of l.words) l.names (map naming_of l.given.items)
