use Rattle.std.proofs.Common.{◌≡◌}
use Rattle.std.specs.Option.{option_or}
use Rattle.mbe_tt.specs.Trees.Tree.{flat_len}
use Rattle.mbe_tt.specs.Views.View.{trees}
use Rattle.mbe_session.specs.RecursionLimit as spec
use Rattle.mbe_session.proofs.recursion_limit.recursion_limit.Given as goal

abbrev pub invariant-trees : goal.invariant-trees
invariant-trees g l =
    option_or (spec.recursion_limit l.rest) l.found ≡ spec.recursion_limit (trees l.fn.tokens)

abbrev pub decreases-trees : goal.decreases-trees
decreases-trees g l = flat_len l.rest
