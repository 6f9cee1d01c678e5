-- The last group of a forest, found from the end of its entries.
use Rattle.std.proofs.Common.{◌≡◌, ℕ, ◌+◌, ◌≤◌, List, [], ◌∷◌, ◌++◌, length, refl, ap, sym, ◌∙◌, arith, length-append}
use Rattle.std.proofs.Common.{take, drop, Some, None, ◌⊎◌, inl, inr}
use Rattle.std.specs.Option.{option_map}
use Rattle.mbe_tt.specs.Trees.Tree.{Forest, none, leaf, group, append, tree, Tree, Leaf_tree, Group_tree, flat_len}
use Rattle.mbe_tt.specs.Trees.Tree.{last_invisible, if_invisible}
use Rattle.std.proofs.lemmas.List.{take-append-drop, length-take}
use Rattle.mbe_tt.specs.Views.BufferEntries.{spell, forest_of, Spelled}
use Rattle.mbe_tt.specs.Views.LeafViews.{entries_of, entry_of}
use Rattle.mbe_tt.specs.declared.entry.Entry.{Entry as TheEntry}
use Rattle.mbe_tt.specs.declared.entry.Entry.TheVariants as e
use Rattle.mbe_tt.specs.declared.tt.DelimiterKind.{DelimiterKind}
use Rattle.mbe_tt.specs.declared.tt.DelimiterKind.TheVariants.{Invisible, Parenthesis, Brace, Bracket}
use Rattle.mbe_tt.proofs.Buffers.Seen.{length-shown, shown_append}
use Rattle.mbe_tt.specs.Views.BufferEntry.{Entry, Open, Close}
use Rattle.mbe_tt.specs.declared.tt.Subtree.{Subtree}
use Rattle.mbe_tt.proofs.Buffers.Spelled.{length-spell}
use Rattle.mbe_tt.proofs.Offsets.LastTreeLemmas.{further, from_zero, past_group, last_of, last_invisible-at, spell_last}
use Rattle.mbe_tt.proofs.Offsets.LastTreeLemmas.{group_end}

-- an entry other than the closing that is between the lists is in one of them
abbrev Inside : (xs ys a b : List Entry) (x : Entry) → Type 0
Inside xs ys a b x = (c : List Entry) × (xs ≡ a ++ x ∷ c) × (b ≡ c ++ Close ∷ ys)

abbrev After : (xs ys a b : List Entry) (x : Entry) → Type 0
After xs ys a b x = (c : List Entry) × (ys ≡ c ++ x ∷ b) × (length a ≡ length xs + 1 + length c)

abbrev IsOneOf : (xs ys a b : List Entry) (x : Entry) → Type 0
IsOneOf xs ys a b x = Inside xs ys a b x ⊎ After xs ys a b x

one_of : (xs ys a b : List Entry) (x : Entry) → (x ≡ Close → ⊥) → xs ++ Close ∷ ys ≡ a ++ x ∷ b → IsOneOf xs ys a b x
one_of [] ys [] b x not e = let h : Close ≡ x = cc in absurd (not (sym h))
one_of [] ys (y ∷ a) b x not e = inr (a, cc, omega arith)
one_of (z ∷ xs) ys [] b x not e = let h : z ≡ x = cc in let k : xs ++ Close ∷ ys ≡ b =
    cc in inl (xs, ap (λ (w : Entry). w ∷ xs) h, sym k)
one_of (z ∷ xs) ys (y ∷ a) b x not e =
    let h : z ≡ y = cc in
    let k : xs ++ Close ∷ ys ≡ a ++ x ∷ b = cc in
    elim (one_of xs ys a b x not k) [
      | inl i ↦ inl (i.0, rw (h) (ap (λ (es : List Entry). y ∷ es) i.1), i.2)
      | inr r ↦ inr (r.0, r.1, omega (arith, r.2))
    ]

opens : (s : Subtree) (n : ℕ) → Open s n ≡ Close → ⊥
opens s n e = cc

-- an opening is followed by as many entries as it says, and its closing
content_follows : (f : Forest) (a b : List Entry) (s : Subtree) (n : ℕ) → spell f ≡ a ++ Open s n ∷ b → n + 1 ≤ length b
content_follows none [] b s n e = cc
content_follows none (x ∷ a) b s n e = cc
content_follows (leaf l rest) [] b s n e = cc
content_follows (leaf l rest) (x ∷ a) b s n e = let h : spell rest ≡ a ++ Open s n ∷ b =
    cc in content_follows rest a b s n h
content_follows (group d i rest) [] b s n e =
    let h : flat_len i ≡ n = cc in
    let k : spell i ++ Close ∷ spell rest ≡ b = cc in
    omega (arith, h, ap length k, length-append (spell i) (Close ∷ spell rest), length-spell i)
content_follows (group d i rest) (x ∷ a) b s n e =
    let h : spell i ++ Close ∷ spell rest ≡ a ++ Open s n ∷ b = cc in
    elim (one_of (spell i) (spell rest) a b (Open s n) (opens s n) h) [
      | inl c ↦ omega (arith, content_follows i a c.0 s n c.1, ap length c.2, length-append c.0 (Close ∷ spell rest))
      | inr c ↦ content_follows rest c.0 b s n c.1
    ]

no_entries : (f : Forest) → flat_len f ≡ 0 → f ≡ none
no_entries none e = refl
no_entries (leaf l rest) e = absurd (omega (arith, e))
no_entries (group d i rest) e = absurd (omega (arith, e))

holds_one : (f : Forest) (a b : List Entry) (x : Entry) → spell f ≡ a ++ x ∷ b → f ≡ none → ⊥
holds_one f a b x e z = omega (arith, ap length e, length-append a (x ∷ b), length-spell f, ap flat_len z)

-- a group whose closing is the last entry is the last tree
pub ends_with_group : (f : Forest) (a b : List Entry) (s : Subtree) (n : ℕ) → spell f ≡ a ++ Open s n ∷ b
    → length b ≡ n + 1
    → last_invisible f ≡ option_map (λ k. length a + k) (if_invisible s.delimiter.kind)
ends_with_group none [] b s n e len = cc
ends_with_group none (x ∷ a) b s n e len = cc
ends_with_group (leaf l rest) [] b s n e len = cc
ends_with_group (leaf l rest) (x ∷ a) b s n e len =
    let h : spell rest ≡ a ++ Open s n ∷ b = cc in
    let p : 1 + length a ≡ length (x ∷ a) = omega arith in
    ap (option_map (λ k. 1 + k)) (ends_with_group rest a b s n h len)
    ∙ (further 1 (length a) (if_invisible s.delimiter.kind)
    ∙ ap (λ (m : ℕ). option_map (λ k. m + k) (if_invisible s.delimiter.kind)) p)
ends_with_group (group d i rest) [] b s n e len =
    let o : record { delimiter = d } ≡ s = cc in
    let h : flat_len i ≡ n = cc in
    let k : spell i ++ Close ∷ spell rest ≡ b = cc in
    let z : flat_len rest ≡ 0 = omega (
      arith,
      h,
      len,
      ap length k,
      length-append (spell i) (Close ∷ spell rest),
      length-spell i,
      length-spell rest,
    ) in
    ap (λ (r : Forest). last_invisible (group d i r)) (no_entries rest z)
    ∙ (ap (λ (t : Subtree). if_invisible t.delimiter.kind) o ∙ from_zero (if_invisible s.delimiter.kind))
ends_with_group (group d i rest) (x ∷ a) b s n e len =
    let h : spell i ++ Close ∷ spell rest ≡ a ++ Open s n ∷ b = cc in
    elim (one_of (spell i) (spell rest) a b (Open s n) (opens s n) h) [
      | inl c ↦ absurd (omega (
        arith,
        len,
        content_follows i a c.0 s n c.1,
        ap length c.2,
        length-append c.0 (Close ∷ spell rest),
      ))
      | inr c ↦
          let p : 2 + flat_len i + length c.0 ≡ length (x ∷ a) = omega (arith, c.2, length-spell i) in
          past_group d i rest (holds_one rest c.0 b (Open s n) c.1)
          ∙ (ap (option_map (λ k. 2 + flat_len i + k)) (ends_with_group rest c.0 b s n c.1 len)
          ∙ (further (2 + flat_len i) (length c.0) (if_invisible s.delimiter.kind)
          ∙ ap (λ (m : ℕ). option_map (λ k. m + k) (if_invisible s.delimiter.kind)) p))
    ]

no_group_at : (before : Forest) (t : Tree) (a : List Entry) (x : Entry)
    → spell before ++ spell (tree t none) ≡ a ++ x ∷ [] → (x ≡ Close → ⊥)
    → last_invisible (append before (tree t none)) ≡ None
no_group_at before (Leaf_tree l) a x e not = last_invisible-at before (Leaf_tree l)
no_group_at before (Group_tree d i) a x e not = absurd (not (sym (group_end before i d a x e)))

-- without a closing at the end, the last tree is no group
pub ends_with_leaf : (f : Forest) (a : List Entry) (x : Entry) → spell f ≡ a ++ x ∷ [] → (x ≡ Close → ⊥)
    → last_invisible f ≡ None
ends_with_leaf f a x e not =
    elim (last_of f) [
      | inl z ↦ ap last_invisible z
      | inr r ↦ ap last_invisible r.is ∙ no_group_at r.before r.last a x (sym (spell_last f r) ∙ e) not
    ]

-- an entry that shows a closing is one
pub shows_no_closing : {A : Type 0} (x : TheEntry A) → ((n : ℕ) → x ≡ e.Close n → ⊥) → entry_of x ≡ Close → ⊥
shows_no_closing (e.Leaf l) not h = cc
shows_no_closing (e.Open s n) not h = cc
shows_no_closing (e.Close n) not h = not n refl

pub leaf_ending : {A : Type 0} (es front : List (TheEntry A)) (x : TheEntry A) → Spelled (entries_of es)
    → es ≡ front ++ x ∷ [] → ((n : ℕ) → x ≡ e.Close n → ⊥)
    → None ≡ last_invisible (forest_of (entries_of es))
leaf_ending es front x spelled is not =
    sym (ends_with_leaf (forest_of (entries_of es)) (entries_of front) (entry_of x)
    (sym spelled ∙ shown_append es front (x ∷ []) is) (shows_no_closing x not))

-- the group from that place on is the last tree
pub group_ending : {A : Type 0} (es content : List (TheEntry A)) (offset n : ℕ) (s : Subtree) → Spelled (entries_of es)
    → drop offset es ≡ e.Open s n ∷ content → offset + n + 2 ≡ length es
    → last_invisible (forest_of (entries_of es)) ≡ option_map (λ k. offset + k) (if_invisible s.delimiter.kind)
group_ending {A = A} es content offset n s spelled is len =
    let parts : entries_of es ≡ entries_of (take offset es) ++ Open s n ∷ entries_of content =
    shown_append es (take offset es) (e.Open s n ∷ content)
    (sym (take-append-drop offset es) ∙ ap (λ (xs : List (TheEntry A)). take offset es ++ xs) is) in
    let before : length (entries_of (take offset es)) ≡ offset =
    length-shown (take offset es) ∙ omega (arith, length-take offset es, len) in
    let after : length (entries_of content) ≡ n + 1 =
    omega (
      arith,
      before,
      len,
      ap length parts,
      length-shown es,
      length-append (entries_of (take offset es)) (Open s n ∷ entries_of content),
    ) in
    ends_with_group (forest_of (entries_of es)) (entries_of (take offset es)) (entries_of content) s n
    (sym spelled ∙ parts) after
    ∙ ap (λ (m : ℕ). option_map (λ k. m + k) (if_invisible s.delimiter.kind)) before

pub place_of_invisible : (k : DelimiterKind) (offset : ℕ) → k ≡ Invisible
    → Some offset ≡ option_map (λ n. offset + n) (if_invisible k)
place_of_invisible Invisible offset e = let h : offset ≡ offset + 0 = omega arith in ap (λ (n : ℕ). Some n) h
place_of_invisible Parenthesis offset e = cc
place_of_invisible Brace offset e = cc
place_of_invisible Bracket offset e = cc

pub no_place_of_visible : (k : DelimiterKind) (offset : ℕ) → (k ≡ Invisible → ⊥)
    → None ≡ option_map (λ n. offset + n) (if_invisible k)
no_place_of_visible Invisible offset not = absurd (not refl)
no_place_of_visible Parenthesis offset not = refl
no_place_of_visible Brace offset not = refl
no_place_of_visible Bracket offset not = refl
