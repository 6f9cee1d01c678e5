-- What entries that spell a forest begin with.
use Rattle.std.proofs.Common.{◌≡◌, ℕ, ◌+◌, ◌-◌, ◌≤◌, ◌<◌, List, ◌∷◌, ◌++◌, length, take, drop, refl, ap, sym, ◌∙◌}
use Rattle.std.proofs.Common.{arith, length-append, append_assoc, Some}
use Rattle.std.proofs.Math.Seq.{take-append_seam, drop-append_seam}
use Rattle.mbe_tt.specs.Trees.Tree.{Forest, none, leaf, group, append, flat_len, tree_count, first, rest_of, tree, Tree}
use Rattle.mbe_tt.specs.Trees.Tree.{Leaf_tree, Group_tree}
use Rattle.mbe_tt.specs.Views.BufferEntries.{spell, forest_of, forest_of-spell, Spelled}
use Rattle.mbe_tt.specs.Trees.Leaf.{Leaf as TheLeaf}
use Rattle.mbe_tt.specs.declared.tt.Subtree.{Subtree}
use Rattle.mbe_tt.specs.Views.BufferEntry.{Entry}
use Rattle.mbe_tt.specs.Views.BufferEntry.{Leaf, Open, Close}

pub length-spell : (f : Forest) → length (spell f) ≡ flat_len f
length-spell none = refl
length-spell (leaf l rest) = omega (arith, length-spell rest)
length-spell (group d inside rest) =
    omega (arith, length-spell inside, length-spell rest, length-append (spell inside) (Close ∷ spell rest))

-- entries that spell some forest spell the one that is read from them
pub spelled : (f : Forest) (es : List Entry) → es ≡ spell f → Spelled es
spelled f es e = e ∙ sym (ap spell (ap forest_of e ∙ forest_of-spell f))

pub read_back : (f : Forest) (es : List Entry) → es ≡ spell f → forest_of es ≡ f
read_back f es e = ap forest_of e ∙ forest_of-spell f

-- what an opening is followed by
pub record AfterOpen (s : Subtree) (n : ℕ) (r : List Entry) : Type 0 where
  pub inside : Forest
  pub rest : Forest
  pub is : forest_of (Open s n ∷ r) ≡ group s.delimiter inside rest
  pub len : n ≡ flat_len inside
  pub entries : r ≡ spell inside ++ Close ∷ spell rest

after_open_at : (s : Subtree) (n : ℕ) (r : List Entry) (f : Forest) → forest_of (Open s n ∷ r) ≡ f
    → Open s n ∷ r ≡ spell f → AfterOpen s n r
after_open_at s n r none is e = cc
after_open_at s n r (leaf l rest) is e = cc
after_open_at s n r (group d inside rest) is e =
    let h : s ≡ record { delimiter = d } = cc in
    record {
      inside = inside;
      rest = rest;
      is = is ∙ ap (λ (t : Subtree). group t.delimiter inside rest) (sym h);
      len = cc;
      entries = cc;
    }

pub after_open : (s : Subtree) (n : ℕ) (r : List Entry) → Spelled (Open s n ∷ r) → AfterOpen s n r
after_open s n r e = after_open_at s n r (forest_of (Open s n ∷ r)) refl e

pub content_fits : (s : Subtree) (n : ℕ) (r : List Entry) → Spelled (Open s n ∷ r) → n < length r
content_fits s n r e =
    let a = after_open s n r e in
    omega (
      arith,
      a.len,
      ap length a.entries,
      length-append (spell a.inside) (Close ∷ spell a.rest),
      length-spell a.inside,
    )

pub take_front : {A : Type 0} (n : ℕ) (xs ys r : List A) → n ≡ length xs → r ≡ xs ++ ys → take n r ≡ xs
take_front n xs ys r en er = rw (er, en) (take-append_seam xs ys)

drop_front : {A : Type 0} (n : ℕ) (xs ys r : List A) → n ≡ length xs → r ≡ xs ++ ys → drop n r ≡ ys
drop_front n xs ys r en er = rw (er, en) (drop-append_seam xs ys)

pub content_is : (s : Subtree) (n : ℕ) (r : List Entry) (a : AfterOpen s n r) → take n r ≡ spell a.inside
content_is s n r a = take_front n (spell a.inside) (Close ∷ spell a.rest) r (a.len ∙ sym (length-spell a.inside))
    a.entries

pub closing_is : (s : Subtree) (n : ℕ) (r : List Entry) (a : AfterOpen s n r) → drop n r ≡ Close ∷ spell a.rest
closing_is s n r a = drop_front n (spell a.inside) (Close ∷ spell a.rest) r (a.len ∙ sym (length-spell a.inside))
    a.entries

pub after_open_is : (s : Subtree) (n : ℕ) (r inside rest : List Entry) (a : AfterOpen s n r) → inside ≡ spell a.inside
    → rest ≡ spell a.rest
    → forest_of (Open s n ∷ r) ≡ group s.delimiter (forest_of inside) (forest_of rest)
after_open_is s n r inside rest a ei er =
    rw (read_back a.inside inside ei, read_back a.rest rest er) a.is

pub spell-append : (f g : Forest) → spell (append f g) ≡ spell f ++ spell g
spell-append none g = refl
spell-append (leaf l rest) g = ap (λ (es : List Entry). Leaf l ∷ es) (spell-append rest g)
spell-append (group d inside rest) g =
    ap (λ (es : List Entry). Open (record { delimiter = d }) (flat_len inside) ∷ es)
    (ap (λ (es : List Entry). spell inside ++ Close ∷ es) (spell-append rest g)
    ∙ sym (append_assoc (spell inside) (Close ∷ spell rest) (spell g)))

-- what was consumed between two places, where the trees left at the first are those consumed and then those left at the
-- second
pub passed_front : (passed left : Forest) (before now : List Entry) → Spelled before → Spelled now
    → forest_of now ≡ left → forest_of before ≡ append passed left
    → before ≡ spell passed ++ now
passed_front passed left before now sb sn vn vb =
    sb ∙ (ap spell vb ∙ (spell-append passed left
    ∙ ap (λ (es : List Entry). spell passed ++ es) (sym (sn ∙ ap spell vn))))

pub passed_len : (passed : Forest) (before now : List Entry) → before ≡ spell passed ++ now
    → length before - length now ≡ length (spell passed)
passed_len passed before now e = omega (arith, ap length e, length-append (spell passed) now)

pub passed_le : (passed : Forest) (before now : List Entry) → before ≡ spell passed ++ now → length now ≤ length before
passed_le passed before now e = omega (arith, ap length e, length-append (spell passed) now)

pub passed_is : (passed : Forest) (before now : List Entry) → before ≡ spell passed ++ now
    → take (length before - length now) before ≡ spell passed
passed_is passed before now e = take_front _ (spell passed) now before (passed_len passed before now e) e

pub count_le : (f : Forest) → tree_count f ≤ flat_len f
count_le none = omega arith
count_le (leaf l rest) = omega (arith, count_le rest)
count_le (group d inside rest) = omega (arith, count_le rest)

pub first_rest : (f : Forest) (t : Tree) → first f ≡ Some t → f ≡ append (tree t none) (rest_of f)
first_rest none t e = cc
first_rest (leaf l rest) (Leaf_tree m) e = ap (λ (x : TheLeaf). leaf x rest) cc
first_rest (leaf l rest) (Group_tree d i) e = cc
first_rest (group d inside rest) (Leaf_tree m) e = cc
first_rest (group d inside rest) (Group_tree k i) e =
    let a : d ≡ k = cc in let b : inside ≡ i = cc in rw (a, b) refl

pub count_first : (f : Forest) (t : Tree) → first f ≡ Some t → tree_count (rest_of f) + 1 ≡ tree_count f
count_first none t e = cc
count_first (leaf l rest) t e = omega arith
count_first (group d inside rest) t e = omega arith
