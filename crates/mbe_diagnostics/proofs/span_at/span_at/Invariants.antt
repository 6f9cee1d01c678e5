use Rattle.std.proofs.Common.{◌≡◌}
use Rattle.mbe_tt.specs.Views.View.{trees}
use Rattle.mbe_tt.specs.Trees.Tree.{flat_len}
use Rattle.mbe_diagnostics.specs.SpanAt.{span_at}
use Rattle.mbe_diagnostics.proofs.span_at.span_at.Given as goal

abbrev pub invariant-trees : goal.invariant-trees
invariant-trees g l = span_at l.close l.iter l.left ≡ span_at l.fn.close (trees l.fn.tokens) l.offset

abbrev pub decreases-trees : goal.decreases-trees
decreases-trees g l = flat_len l.iter
