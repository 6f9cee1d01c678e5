use Rattle.std.proofs.Common.{◌≡◌}
use Rattle.mbe_tt.specs.Views.View.{trees}
use Rattle.mbe_rewriter.specs.AttributedCalls.{past, after_attributes}
use Rattle.mbe_rewriter.proofs.attributed_calls.after_attributes.Given as goal

abbrev pub invariant-attributes : goal.invariant-attributes
invariant-attributes g l = past l.left (trees l.rest) ≡ after_attributes (trees l.fn.tokens)

abbrev pub decreases-attributes : goal.decreases-attributes
decreases-attributes g l = l.left
