-- What an iterator has consumed, and what a variable takes by what comes first.
use Rattle.std.specs.Prelude.{◌≡◌, ◌≤◌, ◌<◌, ◌∷◌, take, ℕ, zero, suc, Bool, true, false, if◌then◌else◌, length, List}
use Rattle.std.specs.Prelude.{Option, Some, None, option_map, refl, ◌==◌}
use Rattle.std.proofs.Common.{ap, sym, ◌∙◌, arith, subst}
use Rattle.std.proofs.lemmas.Option.{none-some, same_Some}
use Rattle.std.proofs.lemmas.Bool.{eq-eqb, ne_eqb}
use Rattle.mbe_tt.specs.Trees.Leaf.{Leaf, Ident, literal, punct, ident, is_underscore}
use Rattle.mbe_tt.specs.Trees.Tree.{Forest, none, leaf, group, append, flat_len, rest_of, skip, front_ident, front_char}
use Rattle.mbe_tt.specs.Trees.Tree.{front_literal, is_bool_text, Cut, cut_trees}
use Rattle.mbe_tt.proofs.Offsets.CutLemmas.{cut_trees-append}
use Rattle.mbe_tt.specs.Trees.Tree.{first, tree, Tree, Leaf_tree, Group_tree, any_ident}
use Rattle.mbe_tt.specs.Views.View.{trees}
use Rattle.mbe_tt.specs.Trees.Glue.{glue, glued, joined, if_joint, is_operator, chars_of}
use Rattle.mbe_tt.specs.declared.grammar.Dialect.{Dialect}
use Rattle.mbe_tt.specs.declared.tt.Punct.{Punct}
use Rattle.mbe_tt.specs.declared.view.TokenTreesView.{TokenTreesView}
use Rattle.mbe_semantics.specs.Fragments.FragmentFront.{ident_front, lifetime_front, unsigned_front}
use Rattle.mbe_semantics.specs.Fragments.FragmentFront.{tree_front}
use Rattle.mbe_ops.specs.Views.{MatchesCut}

skip-none : (n : ℕ) → skip n none ≡ none
skip-none zero = refl
skip-none (suc n) = skip-none n

-- after the first trees
pub back-skip : (n : ℕ) (f : Forest) → (cut_trees n f).back ≡ skip n f
back-skip n none = sym (skip-none n)
back-skip zero (leaf l rest) = refl
back-skip zero (group d inside rest) = refl
back-skip (suc n) (leaf l rest) = back-skip n rest
back-skip (suc n) (group d inside rest) = back-skip n rest

-- the trees are those consumed and those left
pub passes : (n : ℕ) (f : Forest) → f ≡ append (cut_trees n f).front (skip n f)
passes n f = sym (cut_trees-append n f) ∙ ap (append (cut_trees n f).front) (back-skip n f)

-- nothing grows by passing a tree
pub rest_no_longer : (f : Forest) → flat_len (rest_of f) ≤ flat_len f
rest_no_longer none = omega arith
rest_no_longer (leaf l rest) = omega arith
rest_no_longer (group d inside rest) = omega arith

pub passed_to : (n : ℕ) (f saved left : Forest) → saved ≡ f → left ≡ skip n f
    → saved ≡ append (cut_trees n f).front left
passed_to n f saved left s l = s ∙ (passes n f ∙ ap (append (cut_trees n f).front) (sym l))

pub left_following : (n : ℕ) (f left : Forest) → left ≡ skip n f → left ≡ (cut_trees n f).back
left_following n f left l = l ∙ sym (back-skip n f)

pub taken : {A : Type 0} (v : TokenTreesView A) (o : Option Cut) (c : Cut) (left : Forest) → o ≡ Some c
    → trees v ≡ c.front → left ≡ c.back → MatchesCut (Some v) o left
taken v o c left h t l = rw h (t, l)

-- ---- what comes first

if_none : {X Y : Type 0} (b : Bool) (x y : X) (z : Y) → (if b then None else Some x) ≡ Some y
    → (if b then None else Some z) ≡ Some z
if_none true x y z e = absurd (none-some y e)
if_none false x y z e = refl

if_some : {X Y : Type 0} (b : Bool) (x y : X) (z : Y) → (if b then Some x else None) ≡ Some y
    → (if b then Some z else None) ≡ Some z
if_some true x y z e = refl
if_some false x y z e = absurd (none-some y e)

pub ident_in_front : (f : Forest) (i : Ident) → front_ident f ≡ Some i → ident_front f ≡ Some (cut_trees 1 f)
ident_in_front none i e = absurd (none-some i e)
ident_in_front (leaf (literal l) rest) i e = absurd (none-some i e)
ident_in_front (leaf (punct p) rest) i e = absurd (none-some i e)
ident_in_front (leaf (ident j) rest) i e = if_none (is_underscore j.sym) j i (cut_trees 1 (leaf (ident j) rest)) e
ident_in_front (group d inside rest) i e = absurd (none-some i e)

is_quote : (p : Punct) → Some p.char ≡ Some 39 → (p.char == 39) ≡ true
is_quote p e = eq-eqb p.char 39 (same_Some p.char 39 e)

is_no_quote : (p : Punct) → (Some p.char ≡ Some 39 → ⊥) → (p.char == 39) ≡ false
is_no_quote p n = ne_eqb p.char 39 (λ e. n (ap Some e))

lifetime_after : (p : Punct) (rest : Forest) (i : Ident) → (p.char == 39) ≡ true → any_ident rest ≡ Some i
    → lifetime_front (leaf (punct p) rest) ≡ Some (cut_trees 2 (leaf (punct p) rest))
lifetime_after p none i q e = absurd (none-some i e)
lifetime_after p (leaf (literal l) rest) i q e = absurd (none-some i e)
lifetime_after p (leaf (punct o) rest) i q e = absurd (none-some i e)
lifetime_after p (leaf (ident j) rest) i q e = rw q refl
lifetime_after p (group d inside rest) i q e = absurd (none-some i e)

pub lifetime_in_front : (f : Forest) (i : Ident) → front_char f ≡ Some 39 → any_ident (rest_of f) ≡ Some i
    → lifetime_front f ≡ Some (cut_trees 2 f)
lifetime_in_front none i q e = absurd (none-some 39 q)
lifetime_in_front (leaf (literal l) rest) i q e = absurd (none-some 39 q)
lifetime_in_front (leaf (punct p) rest) i q e = lifetime_after p rest i (is_quote p q) e
lifetime_in_front (leaf (ident j) rest) i q e = absurd (none-some 39 q)
lifetime_in_front (group d inside rest) i q e = absurd (none-some 39 q)

-- after a quote there is a lifetime or nothing
pub quoted : (f : Forest) → front_char f ≡ Some 39 → tree_front f ≡ lifetime_front f
quoted none q = absurd (none-some 39 q)
quoted (leaf (literal l) rest) q = absurd (none-some 39 q)
quoted (leaf (punct p) rest) q = rw (is_quote p q) refl
quoted (leaf (ident j) rest) q = absurd (none-some 39 q)
quoted (group d inside rest) q = absurd (none-some 39 q)

-- ---- literals

pub unsigned_in_front : (x : Dialect) (f : Forest) (l : Leaf) → front_literal f ≡ Some l
    → unsigned_front x f ≡ Some (cut_trees 1 f)
unsigned_in_front x none l e = absurd (none-some l e)
unsigned_in_front x (leaf (literal k) rest) l e = refl
unsigned_in_front x (leaf (punct p) rest) l e = absurd (none-some l e)
unsigned_in_front x (leaf (ident i) rest) l e =
    if_some (is_bool_text i.sym) (ident i) l (cut_trees 1 (leaf (ident i) rest)) e
unsigned_in_front x (group d inside rest) l e = absurd (none-some l e)

pub puncts_in_front : (f : Forest) (ps : List Punct) → (front_char f ≡ Some 39 → ⊥) → Some ps ≡ glued f
    → tree_front f ≡ Some (cut_trees (length (glue f)) f)
puncts_in_front none ps n e = absurd (none-some ps (sym e))
puncts_in_front (leaf (literal l) rest) ps n e = absurd (none-some ps (sym e))
puncts_in_front (leaf (punct p) rest) ps n e = rw (is_no_quote p n) refl
puncts_in_front (leaf (ident j) rest) ps n e = absurd (none-some ps (sym e))
puncts_in_front (group d inside rest) ps n e = absurd (none-some ps (sym e))

front-zero : (f : Forest) → (cut_trees 0 f).front ≡ none
front-zero none = refl
front-zero (leaf l rest) = refl
front-zero (group d inside rest) = refl

-- where no punct is in front, one tree is taken
pub one_tree : {A : Type 0} (o : Option (TokenTreesView A)) (f left : Forest) → None ≡ glued f
    → option_map trees o ≡ option_map (λ t. tree t none) (first f) → left ≡ rest_of f → MatchesCut o (tree_front f) left
one_tree None none left g v l = tt
one_tree None (leaf (literal k) rest) left g v l = absurd (none-some _ v)
one_tree None (leaf (punct p) rest) left g v l = absurd (none-some _ v)
one_tree None (leaf (ident i) rest) left g v l = absurd (none-some _ v)
one_tree None (group d inside rest) left g v l = absurd (none-some _ v)
one_tree (Some t) none left g v l = absurd (none-some _ (sym v))
one_tree (Some t) (leaf (literal k) rest) left g v l =
    (same_Some _ _ v ∙ ap (leaf (literal k)) (sym (front-zero rest)), left_following 1 (leaf (literal k) rest) left l)
one_tree (Some t) (leaf (punct p) rest) left g v l = absurd (none-some _ g)
one_tree (Some t) (leaf (ident i) rest) left g v l =
    (same_Some _ _ v ∙ ap (leaf (ident i)) (sym (front-zero rest)), left_following 1 (leaf (ident i) rest) left l)
one_tree (Some t) (group d inside rest) left g v l =
    (same_Some _ _ v ∙ ap (group d inside) (sym (front-zero rest)), left_following 1 (group d inside rest) left l)

-- where no punct comes first, none are consumed
pub no_puncts : (f left : Forest) → None ≡ glued f → left ≡ skip (length (glue f)) f → left ≡ f
no_puncts none left g l = l
no_puncts (leaf (literal k) rest) left g l = l
no_puncts (leaf (punct p) rest) left g l = absurd (none-some _ g)
no_puncts (leaf (ident i) rest) left g l = l
no_puncts (group d inside rest) left g l = l

-- ---- the first tree

pub first_none : (f : Forest) → None ≡ first f → f ≡ none
first_none none e = refl
first_none (leaf l rest) e = absurd (none-some _ e)
first_none (group d inside rest) e = absurd (none-some _ e)

tree_is : (s t : Tree) (rest : Forest) → Some t ≡ Some s → tree s rest ≡ tree t rest
tree_is s t rest e = ap (λ (x : Tree). tree x rest) (sym (same_Some t s e))

-- the first tree, and those after it
pub first_tree : (f left : Forest) (t : Tree) → Some t ≡ first f → left ≡ rest_of f → f ≡ tree t left
first_tree none left t e l = absurd (none-some t (sym e))
first_tree (leaf k rest) left t e l = tree_is (Leaf_tree k) t rest e ∙ ap (tree t) (sym l)
first_tree (group d inside rest) left t e l = tree_is (Group_tree d inside) t rest e ∙ ap (tree t) (sym l)

-- ---- lengths

skip_shorter : (n : ℕ) (f : Forest) → flat_len (skip n f) ≤ flat_len f
skip_shorter zero f = omega arith
skip_shorter (suc n) f = let a = skip_shorter n (rest_of f) in let b = rest_no_longer f in omega arith

glued_some : (b c : Bool) (p : Punct) (more : List Punct)
    → (n : ℕ) × (length (if b then p ∷ more else if c then take 2 (p ∷ more) else take 1 (p ∷ more)) ≡ suc n)
glued_some true c p more = (length more, refl)
glued_some false true p more = (length (take 1 more), refl)
glued_some false false p more = (length (take 0 more), refl)

glue-some : (p : Punct) (left : Forest) → (n : ℕ) × (length (glue (leaf (punct p) left)) ≡ suc n)
glue-some p left =
    let all = joined 3 (leaf (punct p) left) in
    glued_some (is_operator (chars_of all)) (is_operator (chars_of (take 2 all))) p (if_joint p.spacing (joined 2 left))

shorter_by : (n : ℕ) (p : Punct) (left : Forest) → (m : ℕ) → n ≡ suc m
    → flat_len (skip n (leaf (punct p) left)) < flat_len (leaf (punct p) left)
shorter_by n p left m e = rw e (let h = skip_shorter m left in omega arith)

pub puncts_longer : (f left new : Forest) (p : Punct) → f ≡ leaf (punct p) left → new ≡ skip (length (glue f)) f
    → flat_len new < flat_len f
puncts_longer f left new p at l =
    let n = glue-some p left in
    let shorter : flat_len (skip (length (glue (leaf (punct p) left))) (leaf (punct p) left))
    < flat_len (leaf (punct p) left) =
    shorter_by (length (glue (leaf (punct p) left))) p left n.0 n.1 in
    subst (λ (g : Forest). flat_len g < flat_len f) (sym l)
    (subst (λ (g : Forest). flat_len (skip (length (glue g)) g) < flat_len g) (sym at) shorter)

pub glued_is : (f : Forest) (ps : List Punct) → Some ps ≡ glued f → glue f ≡ ps
glued_is none ps e = absurd (none-some ps (sym e))
glued_is (leaf (literal l) rest) ps e = absurd (none-some ps (sym e))
glued_is (leaf (punct p) rest) ps e = sym (same_Some _ _ e)
glued_is (leaf (ident i) rest) ps e = absurd (none-some ps (sym e))
glued_is (group d inside rest) ps e = absurd (none-some ps (sym e))
