-- What is left to be looked at, where trees are searched for one that passes a test.
use Rattle.std.proofs.Common.{◌≡◌, Bool, true, false, Some, None, ap, sym, ◌∙◌}
use Rattle.std.specs.Prelude.{◌||◌}
use Rattle.mbe_tt.specs.Trees.Tree.{Forest, Tree, Leaf_tree, Group_tree, first, rest_of}
use Rattle.mbe_rewriter.specs.WholeFragments.TreeSearch.{any_tree}
use Rattle.mbe_tt.proofs.Trees.Firsts.{nothing, whole}

-- one is among the trees that are left where one is among all
pub Looks : (Tree → Forest → Bool) → Bool → Forest → Type 0
Looks test all rest = any_tree test rest ≡ all

pub looks_at : (test : Tree → Forest → Bool) (all : Bool) (f next : Forest) → any_tree test f ≡ all → next ≡ f
    → Looks test all next
unfolding Looks
looks_at test all f next e same = ap (any_tree test) same ∙ e

one_by : (test : Tree → Forest → Bool) (rest : Forest) (t : Tree) → first rest ≡ Some t
    → any_tree test rest ≡ (test t (rest_of rest) || any_tree test (rest_of rest))
one_by test rest (Leaf_tree l) e = ap (any_tree test) (whole rest (Leaf_tree l) e)
one_by test rest (Group_tree d inside) e = ap (any_tree test) (whole rest (Group_tree d inside) e)

-- the first tree passes it
pub tree_found : (test : Tree → Forest → Bool) (all : Bool) (rest ahead : Forest) (t : Tree) (found : Bool)
    → Looks test all rest → first rest ≡ Some t → found ≡ test t ahead → ahead ≡ rest_of rest → found ≡ true
    → true ≡ all
unfolding Looks
tree_found test all rest ahead t found h is e there is_there =
    sym (one_by test rest t is ∙ ap (λ b. b || any_tree test (rest_of rest)) (sym (e ∙ ap (test t) there) ∙ is_there))
    ∙ h

-- the first tree doesn't
pub tree_passed : (test : Tree → Forest → Bool) (all : Bool) (rest ahead next : Forest) (t : Tree) (found : Bool)
    → Looks test all rest → first rest ≡ Some t → found ≡ test t ahead → ahead ≡ rest_of rest → found ≡ false
    → next ≡ rest_of rest → Looks test all next
unfolding Looks
tree_passed test all rest ahead next t found h is e there is_not same =
    ap (any_tree test) same
    ∙ sym (one_by test rest t is ∙ ap (λ b. b || any_tree test (rest_of rest)) (sym (e ∙ ap (test t) there) ∙ is_not))
    ∙ h

pub looks_ended : (test : Tree → Forest → Bool) (all : Bool) (rest : Forest) → Looks test all rest
    → first rest ≡ None → false ≡ all
unfolding Looks
looks_ended test all rest h is = sym (ap (any_tree test) (nothing rest is)) ∙ h
