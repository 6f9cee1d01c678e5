-- Trees after trees.
use Rattle.std.specs.Prelude.{◌≡◌, refl}
use Rattle.std.proofs.Common.{ap}
use Rattle.mbe_tt.specs.Trees.Tree.{Forest, Tree, Leaf_tree, Group_tree, none, leaf, group, tree, append}

pub append_append : (f g h : Forest) → append (append f g) h ≡ append f (append g h)
append_append none g h = refl
append_append (leaf l rest) g h = ap (leaf l) (append_append rest g h)
append_append (group d inside rest) g h = ap (group d inside) (append_append rest g h)

pub tree_before : (t : Tree) (f : Forest) → append (tree t none) f ≡ tree t f
tree_before (Leaf_tree l) f = refl
tree_before (Group_tree d inside) f = refl
