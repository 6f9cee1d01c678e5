use Rattle.std.proofs.Common.{◌≡◌}
use Rattle.mbe_tt.specs.Trees.Tree.{Forest, append, flat_len}
use Rattle.mbe_tt.specs.Views.View.{trees}
use Rattle.mbe_session.proofs.adjustment.without_semicolon.Given as goal

abbrev pub invariant-trees : goal.invariant-trees
invariant-trees g l = (done : Forest) × (trees l.fn.tokens ≡ append done l.iter)

abbrev pub decreases-trees : goal.decreases-trees
decreases-trees g l = flat_len l.iter
