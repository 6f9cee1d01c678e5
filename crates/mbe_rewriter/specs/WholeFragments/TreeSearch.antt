-- A search for a tree that passes a test.
use Rattle.std.specs.Prelude.{Bool, false, ◌||◌}
use Rattle.mbe_tt.specs.Trees.Tree.{Forest, Tree, Leaf_tree, Group_tree, none, leaf, group}

-- One of these trees passes the test, which also sees the trees after it.
abbrev pub any_tree : (Tree → Forest → Bool) → Forest → Bool
any_tree test none = false
any_tree test (leaf l rest) = test (Leaf_tree l) rest || any_tree test rest
any_tree test (group d inside rest) = test (Group_tree d inside) rest || any_tree test rest
