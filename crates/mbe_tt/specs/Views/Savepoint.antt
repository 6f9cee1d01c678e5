-- The trees that were left at a savepoint.
use Rattle.mbe_tt.specs.Trees.Tree.{Forest}
use Rattle.mbe_tt.specs.Views.View.{trees}
use Rattle.mbe_tt.specs.declared.iter.TtIterSavepoint.{TtIterSavepoint}

-- the trees that were left when the savepoint was made
abbrev pub saved : {A : Type 0} → TtIterSavepoint A → Forest
saved p = trees p.left
