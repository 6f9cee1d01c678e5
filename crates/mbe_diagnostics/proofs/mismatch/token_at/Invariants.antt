use Rattle.std.proofs.Common.{◌≡◌, None}
use Rattle.mbe_tt.specs.Views.View.{trees}
use Rattle.mbe_diagnostics.specs.Mismatch.{token_at}
use Rattle.mbe_diagnostics.proofs.mismatch.token_at.Given as goal

abbrev pub invariant-trees : goal.invariant-trees
invariant-trees g l = token_at l.around l.rest l.left ≡ token_at None (trees l.fn.tokens) l.offset

abbrev pub decreases-trees : goal.decreases-trees
decreases-trees g l = l.left
