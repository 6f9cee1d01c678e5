-- The last tree of a forest.
use Rattle.std.proofs.Common.{◌≡◌, ℕ, ◌+◌, ◌≤◌, List, [], ◌∷◌, ◌++◌, length, refl, ap, sym, ◌∙◌, arith, length-append}
use Rattle.std.proofs.Common.{append_assoc, Some, None, ◌⊎◌, inl, inr}
use Rattle.std.specs.Option.{option_map}
use Rattle.std.specs.Prelude.{Option, Bool, false, IsTrue, ◌↔◌}
use Rattle.std.proofs.Common.{true≢false}
use Rattle.mbe_tt.specs.Trees.Tree.{Forest, none, leaf, group, append, flat_len, tree, Tree, Leaf_tree, Group_tree}
use Rattle.mbe_tt.specs.Trees.Tree.{change_last, alone, alone_tree, alone_leaf, unwrapped, strip_tree, strip_group}
use Rattle.mbe_tt.specs.Trees.Tree.{last_invisible, if_invisible, leaf_punct, rest_of}
use Rattle.mbe_tt.specs.Trees.Leaf.{Leaf as TheLeaf, literal, punct, ident}
use Rattle.mbe_tt.specs.Views.BufferEntries.{spell}
use Rattle.mbe_tt.specs.Views.BufferEntry.{Entry, Leaf, Open, Close, entry_punct}
use Rattle.mbe_tt.specs.declared.tt.Delimiter.{Delimiter}
use Rattle.mbe_tt.specs.declared.tt.DelimiterKind.{DelimiterKind}
use Rattle.mbe_tt.specs.declared.tt.DelimiterKind.TheVariants.{Invisible, Parenthesis, Brace, Bracket}
use Rattle.mbe_tt.specs.declared.tt.Punct.{Punct}
use Rattle.mbe_tt.specs.declared.tt.Spacing.TheVariants.{Alone}
use Rattle.mbe_tt.proofs.Buffers.Spelled.{spell-append}

pub record LastTree (f : Forest) : Type 0 where
  pub before : Forest
  pub last : Tree
  pub is : f ≡ append before (tree last none)

pub last_of : (f : Forest) → (f ≡ none) ⊎ LastTree f
last_of none = inl refl
last_of (leaf l rest) =
    elim (last_of rest) [
      | inl e ↦ inr (record { before = none; last = Leaf_tree l; is = ap (leaf l) e })
      | inr r ↦ inr (record { before = leaf l r.before; last = r.last; is = ap (leaf l) r.is })
    ]
last_of (group d inside rest) =
    elim (last_of rest) [
      | inl e ↦ inr (record { before = none; last = Group_tree d inside; is = ap (group d inside) e })
      | inr r ↦ inr (record { before = group d inside r.before; last = r.last; is = ap (group d inside) r.is })
    ]

pub change_last-at : (g : Tree → Forest) (before : Forest) (t : Tree)
    → change_last g (append before (tree t none)) ≡ append before (g t)
change_last-at g none (Leaf_tree l) = refl
change_last-at g none (Group_tree d i) = refl
change_last-at g (leaf l none) (Leaf_tree m) = refl
change_last-at g (leaf l none) (Group_tree d i) = refl
change_last-at g (leaf l (leaf m rest)) t = ap (leaf l) (change_last-at g (leaf m rest) t)
change_last-at g (leaf l (group e j rest)) t = ap (leaf l) (change_last-at g (group e j rest) t)
change_last-at g (group d i none) (Leaf_tree m) = refl
change_last-at g (group d i none) (Group_tree e j) = refl
change_last-at g (group d i (leaf m rest)) t = ap (group d i) (change_last-at g (leaf m rest) t)
change_last-at g (group d i (group e j rest)) t = ap (group d i) (change_last-at g (group e j rest) t)

-- a forest with another last tree, and itself
pub changed : (g : Tree → Forest) (f : Forest) (r : LastTree f) → change_last g f ≡ append r.before (g r.last)
changed g f r = ap (change_last g) r.is ∙ change_last-at g r.before r.last

pub unchanged : (g : Tree → Forest) (f : Forest) (r : LastTree f) → g r.last ≡ tree r.last none → change_last g f ≡ f
unchanged g f r e = changed g f r ∙ (ap (append r.before) e ∙ sym r.is)

pub record Ends (xs ys : List Entry) (x y : Entry) : Type 0 where
  pub front : xs ≡ ys
  pub last : x ≡ y

ends_same : (xs ys : List Entry) (x y : Entry) → xs ++ x ∷ [] ≡ ys ++ y ∷ [] → Ends xs ys x y
ends_same [] [] x y e = record { front = refl; last = cc }
ends_same [] (b ∷ ys) x y e = absurd (omega (arith, ap length e, length-append ys (y ∷ [])))
ends_same (a ∷ xs) [] x y e = absurd (omega (arith, ap length e, length-append xs (x ∷ [])))
ends_same (a ∷ xs) (b ∷ ys) x y e =
    let h : a ≡ b = cc in
    let t : xs ++ x ∷ [] ≡ ys ++ y ∷ [] = cc in
    let r = ends_same xs ys x y t in
    record { front = ap (λ (k : Entry). k ∷ xs) h ∙ ap (λ (k : List Entry). b ∷ k) r.front; last = r.last }

pub spell_last : (f : Forest) (r : LastTree f) → spell f ≡ spell r.before ++ spell (tree r.last none)
spell_last f r = ap spell r.is ∙ spell-append r.before (tree r.last none)

-- what the last entry of a forest is
ends_leaf : (before : Forest) (l : TheLeaf) (front : List Entry) (x : Entry)
    → spell before ++ Leaf l ∷ [] ≡ front ++ x ∷ [] → Ends (spell before) front (Leaf l) x
ends_leaf before l front x e = ends_same (spell before) front (Leaf l) x e

pub group_end : (before inside : Forest) (d : Delimiter) (front : List Entry) (x : Entry)
    → spell before ++ Open (record { delimiter = d }) (flat_len inside) ∷ (spell inside ++ Close ∷ []) ≡ front ++ x ∷ []
    → Close ≡ x
group_end before inside d front x e =
    (ends_same (spell before ++ Open (record { delimiter = d }) (flat_len inside) ∷ spell inside) front Close x
    (append_assoc (spell before) (Open (record { delimiter = d }) (flat_len inside) ∷ spell inside) (Close ∷ [])
    ∙ e)).last

alone_other : (l : TheLeaf) → leaf_punct l ≡ None → alone_leaf l ≡ l
alone_other (literal l) e = refl
alone_other (punct p) e = cc
alone_other (ident i) e = refl

alone_is : (l : TheLeaf) (p : Punct) → leaf_punct l ≡ Some p → alone_leaf l ≡ punct (record p { spacing = Alone })
alone_is (literal l) p e = cc
alone_is (punct q) p e = let h : q ≡ p = cc in ap (λ (k : Punct). punct (record k { spacing = Alone })) h
alone_is (ident i) p e = cc

keeps_at : (f : Forest) (before : Forest) (t : Tree) (front : List Entry) (x : Entry)
    → spell before ++ spell (tree t none) ≡ front ++ x ∷ [] → entry_punct x ≡ None
    → alone_tree t ≡ tree t none
keeps_at f before (Leaf_tree l) front x e n =
    let h = ends_leaf before l front x e in
    ap (λ (m : TheLeaf). leaf m none) (alone_other l (ap entry_punct h.last ∙ n))
keeps_at f before (Group_tree d i) front x e n = refl

pub alone_keeps : (f : Forest) (front : List Entry) (x : Entry) → spell f ≡ front ++ x ∷ [] → entry_punct x ≡ None
    → alone f ≡ f
alone_keeps f front x e n =
    elim (last_of f) [
      | inl z ↦ ap alone z ∙ sym z
      | inr r ↦ unchanged alone_tree f r (keeps_at f r.before r.last front x (sym (spell_last f r) ∙ e) n)
    ]

punct_at : (before : Forest) (t : Tree) (front : List Entry) (x : Entry) (p : Punct)
    → spell before ++ spell (tree t none) ≡ front ++ x ∷ [] → entry_punct x ≡ Some p
    → spell before ++ spell (alone_tree t) ≡ front ++ Leaf (punct (record p { spacing = Alone })) ∷ []
punct_at before (Leaf_tree l) front x p e n =
    let h = ends_leaf before l front x e in
    ap (λ (m : TheLeaf). spell before ++ Leaf m ∷ []) (alone_is l p (ap entry_punct h.last ∙ n))
    ∙ ap (λ (k : List Entry). k ++ Leaf (punct (record p { spacing = Alone })) ∷ []) h.front
punct_at before (Group_tree d i) front x p e n =
    let h : entry_punct Close ≡ Some p = ap entry_punct (group_end before i d front x e) ∙ n in cc

nothing_ends : (front : List Entry) (x : Entry) → spell none ≡ front ++ x ∷ [] → ⊥
nothing_ends front x e = let k = length-append front (x ∷ []) in omega (arith, ap length e, k)

pub alone_punct : (f : Forest) (front : List Entry) (x : Entry) (p : Punct) → spell f ≡ front ++ x ∷ []
    → entry_punct x ≡ Some p
    → front ++ Leaf (punct (record p { spacing = Alone })) ∷ [] ≡ spell (alone f)
alone_punct f front x p e n =
    elim (last_of f) [
      | inl z ↦ absurd (nothing_ends front x (sym (ap spell z) ∙ e))
      | inr r ↦ sym (ap spell (changed alone_tree f r) ∙ (spell-append r.before (alone_tree r.last)
          ∙ punct_at r.before r.last front x p (sym (spell_last f r) ∙ e) n))
    ]

-- invisible groups at the end
abbrev tree_invisible : Tree → Option ℕ
tree_invisible (Leaf_tree l) = None
tree_invisible (Group_tree d i) = if_invisible d.kind

pub further : (a b : ℕ) (o : Option ℕ) → option_map (λ n. a + n) (option_map (λ n. b + n) o)
    ≡ option_map (λ n. a + b + n) o
further a b None = refl
further a b (Some n) = let h : a + (b + n) ≡ a + b + n = omega arith in ap (λ (k : ℕ). Some k) h

pub from_zero : (o : Option ℕ) → o ≡ option_map (λ n. 0 + n) o
from_zero None = refl
from_zero (Some n) = let h : n ≡ 0 + n = omega arith in ap (λ (k : ℕ). Some k) h

start_at : (t : Tree) → last_invisible (tree t none) ≡ tree_invisible t
start_at (Leaf_tree l) = refl
start_at (Group_tree d i) = refl

on_leaf : (l : TheLeaf) (before : Forest) (t : Tree)
    → last_invisible (append before (tree t none)) ≡ option_map (λ n. flat_len before + n) (tree_invisible t)
    → last_invisible (leaf l (append before (tree t none)))
    ≡ option_map (λ n. flat_len (leaf l before) + n) (tree_invisible t)
on_leaf l before t h = ap (option_map (λ n. 1 + n)) h ∙ further 1 (flat_len before) (tree_invisible t)

pub past_group : (d : Delimiter) (i f : Forest) → (f ≡ none → ⊥)
    → last_invisible (group d i f) ≡ option_map (λ n. 2 + flat_len i + n) (last_invisible f)
past_group d i none h = absurd (h refl)
past_group d i (leaf m rest) h = refl
past_group d i (group e j rest) h = refl

not_none : (before : Forest) (t : Tree) → append before (tree t none) ≡ none → ⊥
not_none none (Leaf_tree l) e = let h : 1 + flat_len none ≡ 0 = ap flat_len e in omega arith
not_none none (Group_tree d i) e = let h : 2 + flat_len i + flat_len none ≡ 0 = ap flat_len e in omega arith
not_none (leaf l rest) t e = let h : 1 + flat_len (append rest (tree t none)) ≡ 0 = ap flat_len e in omega arith
not_none (group d i rest) t e = let h : 2 + flat_len i + flat_len (append rest (tree t none)) ≡ 0 =
    ap flat_len e in omega arith

pub last_invisible-at : (before : Forest) (t : Tree)
    → last_invisible (append before (tree t none)) ≡ option_map (λ n. flat_len before + n) (tree_invisible t)
last_invisible-at none t = start_at t ∙ from_zero (tree_invisible t)
last_invisible-at (leaf l rest) t = on_leaf l rest t (last_invisible-at rest t)
last_invisible-at (group d i rest) t =
    past_group d i (append rest (tree t none)) (not_none rest t)
    ∙ (ap (option_map (λ n. 2 + flat_len i + n)) (last_invisible-at rest t)
    ∙ further (2 + flat_len i) (flat_len rest) (tree_invisible t))

pub record EndsInvisible (f : Forest) (n : ℕ) : Type 0 where
  pub before : Forest
  pub delimiter : Delimiter
  pub inside : Forest
  pub is : f ≡ append before (group delimiter inside none)
  pub offset : n ≡ flat_len before
  pub unwrapped_is : unwrapped f ≡ append before inside

kind_strip : (d : Delimiter) (k : DelimiterKind) (i : Forest) (m : ℕ) → if_invisible k ≡ Some m → strip_group d k i ≡ i
kind_strip d Invisible i m e = refl
kind_strip d Parenthesis i m e = cc
kind_strip d Brace i m e = cc
kind_strip d Bracket i m e = cc

kind_zero : (k : DelimiterKind) (m : ℕ) → if_invisible k ≡ Some m → m ≡ 0
kind_zero Invisible m e = cc
kind_zero Parenthesis m e = cc
kind_zero Brace m e = cc
kind_zero Bracket m e = cc

kind_keep : (d : Delimiter) (k : DelimiterKind) (i : Forest) → if_invisible k ≡ None
    → strip_group d k i ≡ group d i none
kind_keep d Invisible i e = cc
kind_keep d Parenthesis i e = refl
kind_keep d Brace i e = refl
kind_keep d Bracket i e = refl

back_of_map : (a n : ℕ) (o : Option ℕ) → option_map (λ k. a + k) o ≡ Some n → (m : ℕ) × (o ≡ Some m) × (n ≡ a + m)
back_of_map a n None e = cc
back_of_map a n (Some m) e = (m, refl, cc)

back_of_none : (a : ℕ) (o : Option ℕ) → option_map (λ k. a + k) o ≡ None → o ≡ None
back_of_none a None e = refl
back_of_none a (Some m) e = cc

ends_at : (f before : Forest) (t : Tree) (n : ℕ) → f ≡ append before (tree t none)
    → option_map (λ k. flat_len before + k) (tree_invisible t) ≡ Some n → EndsInvisible f n
ends_at f before (Leaf_tree l) n is e = cc
ends_at f before (Group_tree d i) n is e =
    let b = back_of_map (flat_len before) n (if_invisible d.kind) e in
    record {
      before = before;
      delimiter = d;
      inside = i;
      is = is;
      offset = omega (arith, b.2, kind_zero d.kind b.0 b.1);
      unwrapped_is = ap unwrapped is ∙ (change_last-at strip_tree before (Group_tree d i)
          ∙ ap (append before) (kind_strip d d.kind i b.0 b.1));
    }

pub ends_invisible : (f : Forest) (n : ℕ) → Some n ≡ last_invisible f → EndsInvisible f n
ends_invisible f n e =
    elim (last_of f) [
      | inl z ↦ (let h : Some n ≡ last_invisible none = e ∙ ap last_invisible z in cc)
      | inr r ↦ ends_at f r.before r.last n r.is
          (sym (last_invisible-at r.before r.last) ∙ (sym (ap last_invisible r.is) ∙ sym e))
    ]

keep_at : (t : Tree) → tree_invisible t ≡ None → strip_tree t ≡ tree t none
keep_at (Leaf_tree l) e = refl
keep_at (Group_tree d i) e = kind_keep d d.kind i e

pub unwrapped_same : (f : Forest) → None ≡ last_invisible f → unwrapped f ≡ f
unwrapped_same f e =
    elim (last_of f) [
      | inl z ↦ ap unwrapped z ∙ sym z
      | inr r ↦ unchanged strip_tree f r
          (keep_at r.last (back_of_none (flat_len r.before) (tree_invisible r.last)
          (sym (last_invisible-at r.before r.last) ∙ (sym (ap last_invisible r.is) ∙ sym e))))
    ]

pub flat_rest : (f : Forest) → flat_len (rest_of f) ≤ flat_len f
flat_rest none = omega arith
flat_rest (leaf l rest) = omega arith
flat_rest (group d i rest) = omega arith

pub record Passed (all next : Forest) (offset : ℕ) : Type 0 where
  pub len : offset + flat_len next ≡ flat_len all
  pub last : option_map (λ n. offset + n) (last_invisible next) ≡ last_invisible all

-- one more tree consumed, which is not the last
pub passed_one : (all iter next : Forest) (offset now : ℕ) → offset + flat_len iter ≡ flat_len all
    → option_map (λ n. offset + n) (last_invisible iter) ≡ last_invisible all
    → next ≡ rest_of iter → (next ≡ none → ⊥) → now + flat_len next ≡ flat_len all → Passed all next now
passed_one all none next offset now len last e some h = absurd (some e)
passed_one all (leaf l rest) next offset now len last e some h =
    let p : offset + 1 ≡ now = omega (arith, ap flat_len e) in
    record {
      len = h;
      last = ap (λ (f : Forest). option_map (λ n. now + n) (last_invisible f)) e
          ∙ (ap (λ (k : ℕ). option_map (λ n. k + n) (last_invisible rest)) (sym p)
          ∙ (sym (further offset 1 (last_invisible rest)) ∙ last));
    }
passed_one all (group d i rest) next offset now len last e some h =
    let p : offset + (2 + flat_len i) ≡ now = omega (arith, ap flat_len e) in
    record {
      len = h;
      last = ap (λ (f : Forest). option_map (λ n. now + n) (last_invisible f)) e
          ∙ (ap (λ (k : ℕ). option_map (λ n. k + n) (last_invisible rest)) (sym p)
          ∙ (sym (further offset (2 + flat_len i) (last_invisible rest))
          ∙ (sym (ap (option_map (λ n. offset + n)) (past_group d i rest (λ z. some (e ∙ z)))) ∙ last)));
    }

pub false_not : (r : Bool) {P : Type 0} → r ≡ false → IsTrue r ↔ P → P → ⊥
false_not r e h p = true≢false (sym (h.1 p) ∙ e)

pub none_of : (o : Option ℕ) → ((n : ℕ) → o ≡ Some n → ⊥) → None ≡ o
none_of None h = refl
none_of (Some n) h = absurd (h n refl)

pub none_is : {A : Type 0} (o : Option A) → ((x : A) → o ≡ Some x → ⊥) → o ≡ None
none_is None h = refl
none_is (Some x) h = absurd (h x refl)
