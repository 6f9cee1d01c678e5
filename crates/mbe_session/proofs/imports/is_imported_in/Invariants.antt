use Rattle.std.proofs.Common.{◌≡◌}
use Rattle.mbe_tt.specs.Trees.Tree.{flat_len}
use Rattle.mbe_tt.specs.Views.View.{trees}
use Rattle.mbe_session.specs.Imports.{is_imported_in}
use Rattle.mbe_session.proofs.imports.is_imported_in.Given as goal

abbrev pub invariant-trees : goal.invariant-trees
invariant-trees g l = is_imported_in l.name l.rest ≡ is_imported_in l.name (trees l.fn.tokens)

abbrev pub decreases-trees : goal.decreases-trees
decreases-trees g l = flat_len l.rest
