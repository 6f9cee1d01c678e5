use Rattle.std.proofs.Common.{map}
use Rattle.mbe_tt.specs.Trees.Tree.{flat_len}
use Rattle.mbe_tt.specs.Views.View.{trees}
use Rattle.mbe_session.specs.SessionViews.{declared_name_of, used_path_of}
use Rattle.mbe_session.proofs.ImportLemmas.{Declaring}
use Rattle.mbe_session.proofs.imports.+add_used_names.Given as goal

abbrev pub decreases-add_used_names : goal.decreases-add_used_names
decreases-add_used_names g l = l.levels

abbrev pub invariant-trees : goal.invariant-trees
invariant-trees g l =
    Declaring l.levels (used_path_of l.start) (trees l.fn.tokens)
    (map declared_name_of l.initial.names.items)
    (used_path_of l.path) l.rest (map declared_name_of l.names.items)

abbrev pub decreases-trees : goal.decreases-trees
decreases-trees g l = flat_len l.rest
