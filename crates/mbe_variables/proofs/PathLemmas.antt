-- How expressions and paths are written.
use Rattle.std.proofs.Common.{◌≡◌, Bool, true, false, Some, None, refl, ap, sym, ◌∙◌}
use Rattle.std.specs.Prelude.{◌||◌, ◌&&◌, ◌==◌, if◌then◌else◌, option_map}
use Rattle.mbe_tt.specs.declared.span.Span.{Span}
use Rattle.mbe_tt.specs.Trees.Leaf.{literal, ident, punct}
use Rattle.mbe_tt.specs.Trees.Tree.{Forest, none, leaf, group, append, Tree, Leaf_tree, Group_tree, tree, first}
use Rattle.mbe_tt.specs.Trees.Tree.{rest_of}
use Rattle.mbe_tt.specs.Buffers.GroupStack.{GroupStack, put}
use Rattle.mbe_semantics.specs.Transcription.FragmentTrees.{path_trees, double_colon, is_ident, is_before_less}
use Rattle.mbe_variables.proofs.PutLemmas.{put-none, put-put, put_both}

-- ---- parentheses, by the first two trees and whether more follow

-- ---- one identifier, or `<`

-- ---- paths, tree by tree

-- what is written after a tree
abbrev pub following : Span → Bool → Forest
following site true = double_colon site none
following site false = none

abbrev pub colons_after : Tree → Forest → Bool
colons_after t rest = is_ident (tree t none) && is_before_less rest

colons : (site : Span) (b : Bool) (p : _) (rest : Forest) →
    (if b then double_colon site (leaf (punct p) (path_trees site rest)) else leaf (punct p) (path_trees site rest))
    ≡ append (following site b) (leaf (punct p) (path_trees site rest))
colons site true p rest = refl
colons site false p rest = refl

pub path_step : (site : Span) (t : Tree) (rest : Forest) →
    path_trees site (tree t rest) ≡ append (tree t none)
    (append (following site (colons_after t rest)) (path_trees site rest))
path_step site (Group_tree d inside) rest = refl
path_step site (Leaf_tree (punct p)) rest = refl
path_step site (Leaf_tree (literal l)) rest = refl
path_step site (Leaf_tree (ident i)) none = refl
path_step site (Leaf_tree (ident i)) (leaf (punct p) rest) = ap (leaf (ident i)) (colons site (p.char == 60) p rest)
path_step site (Leaf_tree (ident i)) (leaf (literal l) rest) = refl
path_step site (Leaf_tree (ident i)) (leaf (ident j) rest) = refl
path_step site (Leaf_tree (ident i)) (group d inside rest) = refl

-- a forest that has a first tree is that tree before the rest
pub first_and_rest : (f : Forest) (t : Tree) → first f ≡ Some t → f ≡ tree t (rest_of f)
first_and_rest none t e = absurd cc
first_and_rest (leaf l rest) t e = let s : Leaf_tree l ≡ t = cc in ap (λ x. tree x rest) s
first_and_rest (group d inside rest) t e = let s : Group_tree d inside ≡ t = cc in ap (λ x. tree x rest) s

-- what a loop over a path's trees keeps: what it wrote, and what it has to write still, is all
pub path_next : (site : Span) (f one now_left : Forest) (t : Tree) (b : Bool) (start now mid new : GroupStack)
    → put (path_trees site f) now ≡ start → first f ≡ Some t → now_left ≡ rest_of f → one ≡ tree t none
    → mid ≡ put one now → b ≡ colons_after t now_left
    → new ≡ put (following site b) mid → put (path_trees site now_left) new ≡ start
path_next site f one now_left t b start now mid new h e r o m c n =
    let whole : f ≡ tree t now_left = first_and_rest f t e ∙ ap (tree t) (sym r) in
    let step = path_step site t now_left in
    let both : new ≡ put (append one (following site b)) now = put_both one (following site b) now mid new m n in
    ap (put (path_trees site now_left)) both
    ∙ (put-put (append one (following site b)) (path_trees site now_left) now
    ∙ (ap (λ x. put x now) (ap (λ y. append (append y (following site b)) (path_trees site now_left)) o
    ∙ (ap (λ y. append (append (tree t none) (following site y)) (path_trees site now_left)) c
    ∙ (one_tree t (following site (colons_after t now_left)) (path_trees site now_left)
    ∙ (sym step ∙ ap (path_trees site) (sym whole))))) ∙ h))
  where
    one_tree : (t : Tree) (g h : Forest) → append (append (tree t none) g) h ≡ append (tree t none) (append g h)
    one_tree (Leaf_tree l) g h = refl
    one_tree (Group_tree d inside) g h = refl

-- the first tree, from the view of it
pub first_tree : (f one : Forest) → Some one ≡ option_map (λ t. tree t none) (first f)
    → (t : Tree) × (first f ≡ Some t) × (one ≡ tree t none)
first_tree none one e = absurd cc
first_tree (leaf l rest) one e = (Leaf_tree l, refl, let s : one ≡ tree (Leaf_tree l) none = cc in s)
first_tree (group d inside rest) one e =
    (Group_tree d inside, refl, let s : one ≡ tree (Group_tree d inside) none = cc in s)

pub less_after : (t : Tree) (one rest : Forest) → one ≡ tree t none → is_ident one ≡ true
    → is_before_less rest ≡ true → true ≡ colons_after t rest
less_after t one rest e i l = sym (ap (λ f. is_ident f && is_before_less rest) (sym e)
    ∙ (ap (λ b. b && is_before_less rest) i ∙ l))

pub other_after : (a b : Bool) → a ≡ false → false ≡ (a && b)
other_after true b e = absurd cc
other_after false b e = refl

pub ident_then : (a b : Bool) → b ≡ false → false ≡ (a && b)
ident_then true b e = sym e
ident_then false b e = refl

pub path_end : (site : Span) (left all : Forest) (old now : GroupStack) → first left ≡ None
    → put (path_trees site left) now ≡ put (path_trees site all) old → now ≡ put (path_trees site all) old
path_end site none all old now e h = put-none now ∙ h
path_end site (leaf l rest) all old now e h = absurd cc
path_end site (group d inside rest) all old now e h = absurd cc
