-- The trees of a view.
use Rattle.mbe_tt.specs.Trees.Tree.{Forest}
use Rattle.std.specs.Prelude.{Bool}
use Rattle.std.specs.Cmp.{IsEquivalence}
use Rattle.std.proofs.lemmas.Cmp.{on_equiv}
use Rattle.mbe_tt.specs.Laws.CodeEquality.{same, same_equiv}
use Rattle.mbe_tt.specs.Views.BufferEntries.{forest_of, forest_code}
use Rattle.mbe_tt.specs.Views.LeafViews.{entries_of}
use Rattle.mbe_tt.specs.declared.view.TokenTreesView.{TokenTreesView}
use Rattle.mbe_tt.specs.declared.view.SubtreeView.{SubtreeView}
use Rattle.mbe_tt.specs.Trees.Top.{Top, top_code}

-- the trees that stand side by side in a view
abbrev pub trees : {A : Type 0} → TokenTreesView A → Forest
trees v = forest_of (entries_of v.entries.now)

-- the group of a view of one group
abbrev pub group_of : {A : Type 0} → SubtreeView A → Top
group_of v = (v.subtree.now.delimiter, trees v.inside)

-- two views are equal if their trees are
abbrev pub view_eq : {A : Type 0} → TokenTreesView A → TokenTreesView A → Bool
view_eq v w = same forest_code (trees v) (trees w)

pub view_eq_laws : {A : Type 0} → IsEquivalence (view_eq {A = A})
view_eq_laws = on_equiv trees (same_equiv forest_code)

-- two views of one group are equal if their groups are
abbrev pub subtree_view_eq : {A : Type 0} → SubtreeView A → SubtreeView A → Bool
subtree_view_eq v w = same top_code (group_of v) (group_of w)

pub subtree_view_eq_laws : {A : Type 0} → IsEquivalence (subtree_view_eq {A = A})
subtree_view_eq_laws = on_equiv group_of (same_equiv top_code)
