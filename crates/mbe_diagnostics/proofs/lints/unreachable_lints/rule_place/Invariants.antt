use Rattle.std.proofs.Common.{◌≡◌}
use Rattle.mbe_tt.specs.Trees.Tree.{flat_len}
use Rattle.mbe_tt.specs.Views.View.{trees}
use Rattle.mbe_diagnostics.specs.Lints.UnreachableLints.{rule_place}
use Rattle.mbe_diagnostics.proofs.lints.unreachable_lints.rule_place.Given as goal

abbrev pub decreases-trees : goal.decreases-trees
decreases-trees g l = flat_len l.iter

abbrev pub invariant-trees : goal.invariant-trees
invariant-trees g l =
    rule_place l.other l.left l.iter ≡ rule_place l.fn.other l.fn.number (trees l.fn.rules)
