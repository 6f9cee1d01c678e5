-- Trees that are cut from the front of others.
use Rattle.std.specs.Prelude.{◌≡◌, ◌≤◌, ◌+◌, ◌-◌, ◌&&◌, ℕ, zero, suc, Bool, true, false, if◌then◌else◌, IsTrue, List}
use Rattle.std.specs.Prelude.{[], ◌∷◌, ◌++◌, length, map, Some, None, ◌==◌, refl}
use Rattle.std.specs.List.{list_all}
use Rattle.std.proofs.Common.{arith, ap, subst}
use Rattle.std.proofs.Math.Bool.{false≢true}
use Rattle.std.proofs.lemmas.Option.{none-some, same_Some}
use Rattle.mbe_tt.specs.declared.grammar.PrefixEntryPoint.{PrefixEntryPoint}
use Rattle.mbe_tt.specs.Trees.Tree.{Forest, FlatToken, closing, none, leaf, group, append, flat, flat_len, tree_count}
use Rattle.mbe_tt.specs.Trees.Tree.{Cut, cut_trees, cut_flat, tree, each_tree, trees_of, concat}
use Rattle.mbe_tt.specs.Grammars.Grammar.{Grammar, is_accepted, accepted_front}
use Rattle.mbe_tt.specs.Laws.TreeLaws.{IsCut, FlatLength, CutsKeepTrees, ShortestCut, EachTreeOnce, GluedExamples}

-- ---- tests

pub no_true : {A : Type 0} → false ≡ true → A
no_true e = absurd (false≢true e)

pub both_left : (a b : Bool) → IsTrue (a && b) → IsTrue a
both_left true b h = refl
both_left false b h = h

pub both_right : (a b : Bool) → IsTrue (a && b) → IsTrue b
both_right true b h = h
both_right false b h = no_true h

-- ---- fronts

pub cut_trees-append : (n : ℕ) (f : Forest) → IsCut f (cut_trees n f)
cut_trees-append n none = refl
cut_trees-append zero (leaf l rest) = refl
cut_trees-append zero (group d inside rest) = refl
cut_trees-append (suc n) (leaf l rest) = ap (leaf l) (cut_trees-append n rest)
cut_trees-append (suc n) (group d inside rest) = ap (group d inside) (cut_trees-append n rest)

pub cut_flat-append : (n : ℕ) (f : Forest) → IsCut f (cut_flat n f)
cut_flat-append n none = refl
cut_flat-append zero (leaf l rest) = refl
cut_flat-append zero (group d inside rest) = refl
cut_flat-append (suc n) (leaf l rest) = ap (leaf l) (cut_flat-append n rest)
cut_flat-append (suc n) (group d inside rest) = ap (group d inside) (cut_flat-append (n - flat_len inside - 1) rest)

pub cuts_keep_trees : CutsKeepTrees
cuts_keep_trees = record { trees = cut_trees-append; tokens = cut_flat-append }

pub flat_len-append : (f h : Forest) → flat_len (append f h) ≡ flat_len f + flat_len h
flat_len-append none h = omega arith
flat_len-append (leaf l rest) h = let e = flat_len-append rest h in omega (arith, e)
flat_len-append (group d inside rest) h = let e = flat_len-append rest h in omega (arith, e)

pub no_cut : {A : Type 0} {c : Cut} → None ≡ Some c → A
no_cut {c = c} e = absurd (none-some c e)

pub if_cut : (f : Forest) (b : Bool) (x c : Cut) → IsCut f x → (if b then Some x else None) ≡ Some c → IsCut f c
if_cut f true x c h e = subst (IsCut f) (same_Some x c e) h
if_cut f false x c h e = no_cut e

pub if_moves : (b : Bool) (x c : Cut) → 1 ≤ flat_len x.front → (if b then Some x else None) ≡ Some c
    → 1 ≤ flat_len c.front
if_moves true x c h e = subst (λ y. 1 ≤ flat_len y.front) (same_Some x c e) h
if_moves false x c h e = no_cut e

pub good_cut : (g : Grammar) (entry : PrefixEntryPoint) (f : Forest) (c : Cut) → accepted_front g entry f ≡ Some c
    → IsCut f c
good_cut g entry f c e = if_cut f (is_accepted g entry f) _ c (cut_flat-append (g.parse entry (flat f)).count f) e

-- ---- flat tokens

length-append : (a b : List FlatToken) → length (a ++ b) ≡ length a + length b
length-append [] b = omega arith
length-append (t ∷ a) b = let e = length-append a b in omega (arith, e)

pub flat_length : FlatLength
flat_length none = refl
flat_length (leaf l rest) = let e = flat_length rest in omega (arith, e)
flat_length (group d inside rest) =
    let e = flat_length rest in
    let h = flat_length inside in
    let k = length-append (flat inside) (closing d ∷ flat rest) in
    omega (arith, e, h, k)

-- ---- the shortest front

enough : (n : ℕ) (f : Forest) → n ≤ flat_len f → n ≤ flat_len (cut_flat n f).front
enough n none h = h
enough zero (leaf l rest) h = omega arith
enough zero (group d inside rest) h = omega arith
enough (suc n) (leaf l rest) h = let e = enough n rest (omega (arith, h)) in omega (arith, e)
enough (suc n) (group d inside rest) h = let e =
    enough (n - flat_len inside - 1) rest (omega (arith, h)) in omega (arith, e)

shortest : (n : ℕ) (t h : Forest) → n ≤ flat_len t → flat_len (cut_flat n (append t h)).front ≤ flat_len t
shortest zero none none k = omega arith
shortest zero none (leaf l rest) k = omega arith
shortest zero none (group d inside rest) k = omega arith
shortest (suc n) none h k = absurd (omega (arith, k))
shortest zero (leaf l t) h k = omega arith
shortest (suc n) (leaf l t) h k = let e = shortest n t h (omega (arith, k)) in omega (arith, e)
shortest zero (group d inside t) h k = omega arith
shortest (suc n) (group d inside t) h k = let e =
    shortest (n - flat_len inside - 1) t h (omega (arith, k)) in omega (arith, e)

pub shortest_cut : ShortestCut
shortest_cut = record {
  enough = enough;
  shortest = λ n f c e k. subst (λ x. flat_len (cut_flat n x).front ≤ flat_len c.front) e (shortest n c.front c.back k);
}

-- ---- one tree after the other

single : (f : Forest) → IsTrue (list_all (λ t. tree_count t == 1) (trees_of f))
single none = refl
single (leaf l rest) = single rest
single (group d inside rest) = single rest

number : (f : Forest) → length (trees_of f) ≡ tree_count f
number none = refl
number (leaf l rest) = let e = number rest in omega (arith, e)
number (group d inside rest) = let e = number rest in omega (arith, e)

together : (f : Forest) → concat (trees_of f) ≡ f
together none = refl
together (leaf l rest) = ap (leaf l) (together rest)
together (group d inside rest) = ap (group d inside) (together rest)

given : (f : Forest) → map (λ t. tree t none) (each_tree f) ≡ trees_of f
given none = refl
given (leaf l rest) = ap (λ ts. leaf l none ∷ ts) (given rest)
given (group d inside rest) = ap (λ ts. group d inside none ∷ ts) (given rest)

pub each_tree_once : EachTreeOnce
each_tree_once = record { given = given; single = single; number = number; together = together }

pub glued_examples : GluedExamples
glued_examples = record { apart = refl; together = refl; first_two = refl; two_alone = refl; one_alone = refl }
