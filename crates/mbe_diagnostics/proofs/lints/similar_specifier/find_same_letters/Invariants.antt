use Rattle.std.proofs.Common.{◌≡◌, map, drop}
use Rattle.mbe_diagnostics.specs.Lints.SimilarSpecifier.{find_same_letters}
use Rattle.mbe_diagnostics.proofs.lints.similar_specifier.find_same_letters.Given as goal

abbrev pub invariant-loop-one : goal.invariant-loop-one
invariant-loop-one l =
    find_same_letters l.name (map (λ s. s.now) (drop l.one-index l.all))
    ≡ find_same_letters l.name (map (λ s. s.now) l.all)
