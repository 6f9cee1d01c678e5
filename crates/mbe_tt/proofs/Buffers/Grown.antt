-- Trees at the end of what a builder has.
use Rattle.std.proofs.Common.{◌≡◌, List, [], ◌∷◌, ◌++◌, refl, ap, sym, ◌∙◌}
use Rattle.mbe_tt.specs.Trees.Tree.{Forest, Tree, none, leaf, tree, append, one_leaf}
use Rattle.mbe_tt.specs.Views.BufferEntries.{append-none}
use Rattle.mbe_tt.specs.Buffers.GroupStack.{GroupStack, put}
use Rattle.mbe_tt.specs.Views.LeafViews.{leaf_of, leaves_of}
use Rattle.mbe_tt.specs.declared.tt.Leaf.{Leaf}
use Rattle.mbe_tt.specs.declared.tt.Delimiter.{Delimiter}
use Rattle.mbe_tt.proofs.Trees.Joined.{append_append, tree_before}

pub put-none : (b : GroupStack) → b ≡ put none b
put-none [] = refl
put-none (g ∷ outer) = ap (λ (f : Forest). let x : Delimiter × Forest = (g.0, f) in x ∷ outer) (sym (append-none g.1))

pub put-put : (f h : Forest) (b : GroupStack) → put h (put f b) ≡ put (append f h) b
put-put f h [] = refl
put-put f h (g ∷ outer) =
    ap (λ (k : Forest). let x : Delimiter × Forest = (g.0, k) in x ∷ outer) (append_append g.1 f h)

-- a tree, and those after it
pub put_one : (t : Tree) (h : Forest) (b : GroupStack) → put h (put (tree t none) b) ≡ put (tree t h) b
put_one t h b = put-put (tree t none) h b ∙ ap (λ (f : Forest). put f b) (tree_before t h)

leaves-more : {A : Type 0} (xs : List (Leaf A)) (x : Leaf A)
    → append (leaves_of xs) (one_leaf (leaf_of x)) ≡ leaves_of (xs ++ x ∷ [])
leaves-more [] x = refl
leaves-more (y ∷ ys) x = ap (leaf (leaf_of y)) (leaves-more ys x)

pub put_more : {A : Type 0} (b before now : GroupStack) (xs : List (Leaf A)) (x : Leaf A)
    → now ≡ put (one_leaf (leaf_of x)) before → before ≡ put (leaves_of xs) b
    → now ≡ put (leaves_of (xs ++ x ∷ [])) b
put_more b before now xs x e h =
    e ∙ (ap (put (one_leaf (leaf_of x))) h
    ∙ (put-put (leaves_of xs) (one_leaf (leaf_of x)) b ∙ ap (λ (f : Forest). put f b) (leaves-more xs x)))
