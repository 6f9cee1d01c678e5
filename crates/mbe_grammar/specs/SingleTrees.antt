-- Tests of single trees.
use Rattle.std.specs.Prelude.{Bool, true, false, not, ◌&&◌, is_some, [], ◌∷◌, codes}
use Rattle.mbe_tt.specs.Trees.Tree.{Tree, Leaf_tree, Group_tree, is_same_kind}
use Rattle.mbe_tt.specs.Trees.Leaf.{literal, punct, ident, is_underscore}
use Rattle.mbe_tt.specs.declared.tt.DelimiterKind.TheVariants.{Parenthesis}
use Rattle.mbe_grammar.specs.Tables.SingleTrees.{is_one_of}
use Rattle.mbe_grammar.specs.Tables.Terminals.{after_one}

-- any identifier but `_`
abbrev pub is_name : Tree → Bool
is_name (Leaf_tree (ident i)) = not (is_underscore i.sym)
is_name (Leaf_tree (punct p)) = false
is_name (Leaf_tree (literal x)) = false
is_name (Group_tree d inside) = false

-- an identifier, a literal or a group
abbrev pub is_not_punct : Tree → Bool
is_not_punct (Leaf_tree (ident i)) = true
is_not_punct (Leaf_tree (punct p)) = false
is_not_punct (Leaf_tree (literal x)) = true
is_not_punct (Group_tree d inside) = true

-- the scope of a `pub`: a group in parentheses that begins with `crate`, `self`, `super` or `in`
abbrev pub is_scope : Tree → Bool
is_scope (Leaf_tree x) = false
is_scope (Group_tree d inside) =
    is_same_kind d.kind Parenthesis && is_some
    (after_one (is_one_of (codes "crate" ∷ codes "self" ∷ codes "super" ∷ codes "in" ∷ [])) inside)
