-- What entries show, as they are put together and taken apart.
use Rattle.std.proofs.Common.{◌≡◌, ℕ, ◌+◌, ◌-◌, List, [], ◌∷◌, ◌++◌, length, take, drop, refl, ap, sym, ◌∙◌, set, arith}
use Rattle.std.proofs.Common.{true≢false}
use Rattle.std.specs.Prelude.{Bool, true, false, ◌&&◌, IsTrue, ◌↔◌}
use Rattle.std.specs.Cmp.Lexicographic.{pointwise}
use Rattle.mbe_tt.specs.Laws.CodeEquality.{same_is, is_same}
use Rattle.mbe_tt.specs.Views.BufferEntry.{entry_code}
use Rattle.mbe_tt.specs.Views.LeafViews.{entry_eq}
use Rattle.std.proofs.lemmas.List.{map-set, length-map, map-append, take-map, drop-map}
use Rattle.mbe_tt.specs.Views.LeafViews.{entries_of, entry_of}
use Rattle.mbe_tt.specs.Views.BufferEntry.{Entry as Flat}
use Rattle.mbe_tt.specs.Views.BufferEntry.{Open}
use Rattle.mbe_tt.specs.Views.BufferEntries.{spell, forest_of}
use Rattle.mbe_tt.specs.Trees.Tree.{Forest}
use Rattle.mbe_tt.specs.Trees.Top.{Top, top_of, top_group}
use Rattle.mbe_tt.specs.Buffers.OpensAt.{OpensAt}
use Rattle.mbe_tt.specs.declared.tt.Subtree.{Subtree}
use Rattle.mbe_tt.specs.declared.entry.Entry.{Entry}
use Rattle.mbe_tt.specs.declared.entry.Entry.TheVariants as e
use Rattle.std.proofs.Math.Seq.{get_or-append_seam}
use Rattle.std.proofs.Math.ListN.{get_or, get_or-map}
use Rattle.mbe_tt.proofs.Buffers.Spelled.{passed_is, read_back}

pub length-shown : {A : Type 0} (es : List (Entry A)) → length (entries_of es) ≡ length es
length-shown es = length-map es entry_of

pub shown_append : {A : Type 0} (es xs ys : List (Entry A)) → es ≡ xs ++ ys
    → entries_of es ≡ entries_of xs ++ entries_of ys
shown_append es xs ys e = ap entries_of e ∙ map-append entry_of xs ys

pub shown_take : {A : Type 0} (n : ℕ) (es xs : List (Entry A)) → es ≡ take n xs → entries_of es ≡ take n (entries_of xs)
shown_take n es xs e = ap entries_of e ∙ sym (take-map entry_of n xs)

pub shown_drop : {A : Type 0} (n : ℕ) (es xs : List (Entry A)) → es ≡ drop n xs → entries_of es ≡ drop n (entries_of xs)
shown_drop n es xs e = ap entries_of e ∙ sym (drop-map entry_of n xs)

pub shown_set : {A : Type 0} (es xs : List (Entry A)) (n : ℕ) (x : Entry A) → es ≡ set xs n x
    → entries_of es ≡ set (entries_of xs) n (entry_of x)
shown_set es xs n x e = ap entries_of e ∙ map-set entry_of xs n x

pub passed_shown : {A : Type 0} (passed : Forest) (before now : List (Entry A))
    → entries_of before ≡ spell passed ++ entries_of now
    → take (length before - length now) (entries_of before) ≡ spell passed
passed_shown passed before now e =
    let n : length before - length now ≡ length (entries_of before) - length (entries_of now) =
    omega (arith, length-shown before, length-shown now) in
    ap (λ (k : ℕ). take k (entries_of before)) n ∙ passed_is passed (entries_of before) (entries_of now) e

-- the element at an opening's place
pub opens_here : {A : Type 0} (es : List (Entry A)) (offset : ℕ) (x d : Entry A) → x ≡ get_or es offset d
    → (o : (s : Subtree) × (n : ℕ) × OpensAt (entries_of es) offset s n) → entry_of x ≡ Open o.0 o.1
opens_here es offset x d e o =
    ap entry_of e ∙ (sym (get_or-map entry_of es offset d)
    ∙ (ap (λ (l : List Flat). get_or l offset (entry_of d)) o.2.is
    ∙ (ap (λ (k : ℕ). get_or (o.2.before ++ Open o.0 o.1 ∷ o.2.after) k (entry_of d)) o.2.at
    ∙ get_or-append_seam o.2.before (Open o.0 o.1) o.2.after (entry_of d))))

pub opens_with : (es : List Flat) (offset : ℕ) (s : Subtree) (n : ℕ) (o : (s : Subtree) × (n : ℕ)
    × OpensAt es offset s n)
    → Open s n ≡ Open o.0 o.1 → OpensAt es offset s n
opens_with es offset s n o e =
    let a : s ≡ o.0 = cc in let b : n ≡ o.1 = cc in rw (a, b) o.2

pub opens_not : {A : Type 0} (x : Entry A) (s : Subtree) (n : ℕ) → entry_of x ≡ Open s n
    → ((t : Subtree) (m : ℕ) → x ≡ e.Open t m → ⊥) → ⊥
opens_not (e.Leaf l) s n h not = cc
opens_not (e.Open t m) s n h not = not t m refl
opens_not (e.Close m) s n h not = cc

both_first : (s t : Bool) → (s && t) ≡ true → (s ≡ true) × (t ≡ true)
both_first true t h = (refl, h)
both_first false t h = absurd (true≢false (sym h))

-- lists that are equal element by element show the same
pointwise_shown : {A : Type 0} (xs ys : List (Entry A)) → pointwise entry_eq xs ys ≡ true
    → entries_of xs ≡ entries_of ys
pointwise_shown [] [] h = refl
pointwise_shown [] (y ∷ ys) h = absurd (true≢false (sym h))
pointwise_shown (x ∷ xs) [] h = absurd (true≢false (sym h))
pointwise_shown (x ∷ xs) (y ∷ ys) h =
    let b = both_first (entry_eq x y) (pointwise entry_eq xs ys) h in
    ap (λ (k : Flat). k ∷ entries_of xs) (same_is entry_code (entry_of x) (entry_of y) b.0)
    ∙ ap (λ (k : List Flat). entry_of y ∷ k) (pointwise_shown xs ys b.1)

shown_pointwise : {A : Type 0} (xs ys : List (Entry A)) → entries_of xs ≡ entries_of ys
    → pointwise entry_eq xs ys ≡ true
shown_pointwise [] [] h = refl
shown_pointwise [] (y ∷ ys) h = cc
shown_pointwise (x ∷ xs) [] h = cc
shown_pointwise (x ∷ xs) (y ∷ ys) h =
    let e : entry_of x ≡ entry_of y = cc in
    let m : entries_of xs ≡ entries_of ys = cc in
    ap (λ (b : Bool). b && pointwise entry_eq xs ys) (is_same entry_code (entry_of x) (entry_of y) e)
    ∙ shown_pointwise xs ys m

pub shown_eq : {A : Type 0} (xs ys : List (Entry A)) (r : Bool) → r ≡ pointwise entry_eq xs ys
    → IsTrue r ↔ (entries_of xs ≡ entries_of ys)
shown_eq xs ys r e = (λ h. pointwise_shown xs ys (sym e ∙ h), λ h. e ∙ shown_pointwise xs ys h)

-- entries that spell forests are the same exactly where the forests are
pub spelled_eq : (f h : Forest) (xs ys : List Flat) (r : Bool) → xs ≡ spell f → ys ≡ spell h → IsTrue r ↔ (xs ≡ ys)
    → IsTrue r ↔ (f ≡ h)
spelled_eq f h xs ys r ex ey i = (
  λ t. sym (read_back f xs ex) ∙ (ap forest_of (i.0 t) ∙ read_back h ys ey),
  λ e. i.1 (ex ∙ (ap spell e ∙ sym ey)),
)

-- the same of buffers
pub spelled_top : (s t : Top) (vs ws xs ys : List Flat) (r : Bool)
    → xs ≡ spell (top_group (top_of (forest_of vs))) → ys ≡ spell (top_group (top_of (forest_of ws)))
    → top_of (forest_of vs) ≡ s → top_of (forest_of ws) ≡ t → IsTrue r ↔ (xs ≡ ys) → IsTrue r ↔ (s ≡ t)
spelled_top s t vs ws xs ys r ex ey es et i =
    let h = spelled_eq (top_group s) (top_group t) xs ys r (ex ∙ ap (λ (k : Top). spell (top_group k)) es)
    (ey ∙ ap (λ (k : Top). spell (top_group k)) et) i in
    (λ e. ap top_of (h.0 e), λ e. h.1 (ap top_group e))

pub shown_cut : {A : Type 0} (es xs : List (Entry A)) (n : ℕ) → es ≡ take n xs ++ drop (n + 1) xs
    → entries_of es ≡ take n (entries_of xs) ++ drop (n + 1) (entries_of xs)
shown_cut es xs n e =
    shown_append es (take n xs) (drop (n + 1) xs) e
    ∙ (ap (λ (k : List Flat). k ++ entries_of (drop (n + 1) xs)) (sym (take-map entry_of n xs))
    ∙ ap (λ (k : List Flat). take n (entries_of xs) ++ k) (sym (drop-map entry_of (n + 1) xs)))
