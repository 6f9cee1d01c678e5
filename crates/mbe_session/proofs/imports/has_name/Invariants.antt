use Rattle.std.proofs.Common.{◌≡◌}
use Rattle.mbe_tt.specs.Trees.Tree.{flat_len}
use Rattle.mbe_tt.specs.Views.View.{trees}
use Rattle.mbe_session.specs.Imports.{has_name}
use Rattle.mbe_session.proofs.imports.has_name.Given as goal

abbrev pub invariant-trees : goal.invariant-trees
invariant-trees g l = has_name l.name l.rest ≡ has_name l.name (trees l.fn.tokens)

abbrev pub decreases-trees : goal.decreases-trees
decreases-trees g l = flat_len l.rest
