use Rattle.std.proofs.Common.{◌≡◌, false}
use Rattle.mbe_tt.specs.Trees.Tree.{flat_len}
use Rattle.mbe_tt.specs.Views.View.{trees}
use Rattle.mbe_diagnostics.specs.Lints.RepetitionLints as spec
use Rattle.mbe_diagnostics.proofs.lints.repetition_lints.repetition_place.Given as goal

abbrev pub decreases-trees : goal.decreases-trees
decreases-trees g l = flat_len l.iter

abbrev pub invariant-trees : goal.invariant-trees
invariant-trees g l =
    spec.repetition_place l.place l.place l.left l.after_dollar l.iter
    ≡ spec.repetition_place l.fn.place l.fn.place l.fn.number false (trees l.fn.rules)
