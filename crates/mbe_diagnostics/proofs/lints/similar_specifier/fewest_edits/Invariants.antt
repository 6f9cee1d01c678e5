use Rattle.std.proofs.Common.{◌≡◌, map, drop, None}
use Rattle.std.specs.Prelude.{option_map}
use Rattle.mbe_diagnostics.specs.Lints.SimilarSpecifier.{fewest, edit_limit}
use Rattle.mbe_diagnostics.proofs.lints.similar_specifier.fewest_edits.Given as goal

abbrev pub invariant-loop-one : goal.invariant-loop-one
invariant-loop-one g l =
    fewest l.name l.bound (option_map (λ s. s.now) l.found) (map (λ s. s.now) (drop l.one-index l.all))
    ≡ fewest l.name (edit_limit l.name) None (map (λ s. s.now) l.all)
