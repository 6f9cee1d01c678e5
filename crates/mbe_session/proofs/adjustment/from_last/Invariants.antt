use Rattle.std.proofs.Common.{◌≡◌}
use Rattle.mbe_tt.specs.Trees.Tree.{flat_len}
use Rattle.mbe_tt.specs.Views.View.{trees}
use Rattle.mbe_session.specs.Adjustment.{from_last}
use Rattle.mbe_session.proofs.adjustment.from_last.Given as goal

abbrev pub invariant-trees : goal.invariant-trees
invariant-trees g l =
    from_last (flat_len (trees l.fn.rest)) l.iter ≡ from_last (flat_len (trees l.fn.rest)) (trees l.fn.tokens)

abbrev pub decreases-trees : goal.decreases-trees
decreases-trees g l = flat_len l.iter
