-- The tree that an element of an iterator stands for.
use Rattle.mbe_tt.specs.Trees.Tree.{Tree, Leaf_tree, Group_tree}
use Rattle.mbe_tt.specs.Views.LeafViews.{leaf_of}
use Rattle.mbe_tt.specs.declared.iter.TtElement.{TtElement}
use Rattle.mbe_tt.specs.declared.iter.TtElement.TheVariants.{Leaf, Subtree}

-- the leaf, or the group with its content
abbrev pub element_tree : {A : Type 0} → TtElement A → Tree
element_tree (Leaf l) = Leaf_tree (leaf_of l.now)
element_tree (Subtree s inside) = Group_tree s.now.delimiter inside
