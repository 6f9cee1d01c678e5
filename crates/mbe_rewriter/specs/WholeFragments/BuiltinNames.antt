-- Whether the names of builtin macros are among trees.
use Rattle.std.specs.Prelude.{ℕ, zero, suc, Bool, false, ◌||◌, codes}
use Rattle.mbe_tt.specs.Trees.Leaf.{Leaf, literal, punct, ident, is_text}
use Rattle.mbe_tt.specs.Trees.Tree.{Forest, Tree, Leaf_tree, Group_tree}
use Rattle.mbe_rewriter.specs.WholeFragments.TreeSearch.{any_tree}

abbrev pub is_builtin_name : Leaf → Bool
is_builtin_name (ident i) =
    is_text i.sym (codes "line") || is_text i.sym (codes "column")
    || is_text i.sym (codes "stringify")
    || is_text i.sym (codes "concat")
is_builtin_name (punct p) = false
is_builtin_name (literal l) = false

-- A tree is such a name, or holds one.
abbrev pub tree_has_builtin_name : (Forest → Bool) → Tree → Bool
tree_has_builtin_name inner (Leaf_tree l) = is_builtin_name l
tree_has_builtin_name inner (Group_tree d inside) = inner inside

-- Such a name is among these trees, at most `levels` groups deep.
unfoldable pub has_builtin_name : ℕ → Forest → Bool
has_builtin_name zero f = false
has_builtin_name (suc levels) f =
    any_tree (λ t rest. tree_has_builtin_name (has_builtin_name levels) t) f

-- Such a name is where `worded` looks.
abbrev pub mentions_builtin : Forest → Bool
mentions_builtin f = has_builtin_name 1000 f
