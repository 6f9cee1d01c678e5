-- Walking over flat tokens.
use Rattle.std.proofs.Common.{◌≡◌, ℕ, zero, suc, ◌+◌, ◌-◌, ◌≤◌, min, List, [], ◌∷◌, ◌++◌, length, take, drop, refl, ap}
use Rattle.std.proofs.Common.{sym, ◌∙◌, arith, length-append, append_assoc, append-nil, add-one, Some, None, ◌⊎◌, inl}
use Rattle.std.proofs.Common.{inr}
use Rattle.mbe_tt.specs.Trees.Tree.{Forest, none, leaf, group, append, flat_len, first, rest_at, depth_at, Leaf_tree}
use Rattle.mbe_tt.specs.Trees.Tree.{Group_tree}
use Rattle.mbe_tt.specs.Trees.Leaf.{Leaf as TheLeaf}
use Rattle.mbe_tt.specs.declared.tt.Subtree.{Subtree}
use Rattle.mbe_tt.specs.Views.BufferEntries.{spell}
use Rattle.mbe_tt.specs.Buffers.Offsets.{Rests, step, walk, rests, closings, spell_rests, DepthAfter}
use Rattle.mbe_tt.specs.Views.BufferEntry.{Entry}
use Rattle.mbe_tt.specs.Views.BufferEntry.{Leaf, Open, Close}
use Rattle.std.proofs.lemmas.Bool.{cases_lt}
use Rattle.mbe_tt.proofs.Offsets.OffsetLemmas.{rest_at-zero, rest_at-in_group, rest_at-following_group}
use Rattle.mbe_tt.proofs.Offsets.OffsetLemmas.{depth_at-in_group, depth_at-following_group}
use Rattle.mbe_tt.proofs.Buffers.Spelled.{length-spell, spell-append, take_front}

spell_rests-step : (f : Forest) (around : List Forest) → drop 1 (spell_rests (f, around)) ≡ spell_rests (step f around)
spell_rests-step none [] = refl
spell_rests-step none (rest ∷ around) = refl
spell_rests-step (leaf l rest) around = refl
spell_rests-step (group d inside rest) around = append_assoc (spell inside) (Close ∷ spell rest) (closings around)

drop-nil : {A : Type 0} (n : ℕ) → drop {A = A} n [] ≡ []
drop-nil zero = refl
drop-nil (suc n) = refl

drop-suc : {A : Type 0} (n : ℕ) (xs : List A) → drop (suc n) xs ≡ drop n (drop 1 xs)
drop-suc n [] = sym (drop-nil n)
drop-suc n (x ∷ xs) = refl

pub drop-walk : (n : ℕ) (r : Rests) → drop n (spell_rests r) ≡ spell_rests (walk n r)
drop-walk zero r = refl
drop-walk (suc n) r = drop-suc n (spell_rests r) ∙ (ap (drop n) (spell_rests-step r.0 r.1) ∙ drop-walk n (step r.0 r.1))

pub walk-step : (n : ℕ) (r : Rests) → walk (n + 1) r ≡ step (walk n r).0 (walk n r).1
walk-step zero r = refl
walk-step (suc n) r = rw (add-one) (ap (λ (k : ℕ). walk k (step r.0 r.1)) (sym (add-one n))
    ∙ walk-step n (step r.0 r.1))

-- what is left from a place on
pub left_is : (f : Forest) (n : ℕ) (es : List Entry) → es ≡ spell f → drop n es ≡ spell_rests (rests f n)
left_is f n es e = ap (drop n) (e ∙ sym (append-nil (spell f))) ∙ drop-walk n (f, [])

depth_after_at : (f : Forest) (around : List Forest) (x : Entry) (es : List Entry) → spell_rests (f, around) ≡ x ∷ es
    → DepthAfter x (length around) (length (step f around).1)
depth_after_at none [] x es e = cc
depth_after_at none (rest ∷ around) x es e = let h : Close ≡ x = cc in rw (← h) (omega arith)
depth_after_at (leaf l rest) around x es e = let h : Leaf l ≡ x = cc in rw (← h) refl
depth_after_at (group d inside rest) around x es e = let h : Open (record { delimiter = d }) (flat_len inside) ≡ x =
    cc in rw (← h) (omega arith)

pub length-closings : (around : List Forest) → length around ≤ length (closings around)
length-closings [] = omega arith
length-closings (rest ∷ around) = omega (arith, length-closings around, length-append (spell rest) (closings around))

-- the next flat token at a place, and the groups around before and after it
pub depth_after : (f : Forest) (n : ℕ) (es : List Entry) (x : Entry) (more : List Entry) → es ≡ spell f
    → drop n es ≡ x ∷ more
    → DepthAfter x (length (rests f n).1) (length (rests f (n + 1)).1)
depth_after f n es x more e h =
    let r : Rests = rests f n in
    let s : spell_rests r ≡ x ∷ more = sym (left_is f n es e) ∙ h in
    rw (walk-step n (f, [])) (depth_after_at r.0 r.1 x more s)

pub depth_le : (f : Forest) (n : ℕ) (es : List Entry) → es ≡ spell f → length (rests f n).1 ≤ length (drop n es)
depth_le f n es e =
    let r : Rests = rests f n in
    omega (arith, ap length (left_is f n es e), length-append (spell r.0) (closings r.1), length-closings r.1)

pub DepthAfter-same : (x : Entry) (n a b : ℕ) → DepthAfter x n a → DepthAfter x n b → a ≡ b
DepthAfter-same (Leaf l) n a b p q = omega arith
DepthAfter-same (Open s k) n a b p q = omega arith
DepthAfter-same Close n a b p q = omega arith

abbrev pub at : Forest → ℕ → Forest × ℕ
at f n = (f, n)

-- the place after one flat token
pub bumped : (v : Forest × ℕ) (f : Forest) (n : ℕ) → at f n ≡ v → n + 1 ≤ flat_len f
    → at f (n + 1) ≡ at v.0 (min (v.1 + 1) (flat_len v.0))
bumped v f n e h =
    let m : n + 1 ≡ min (n + 1) (flat_len f) = omega arith in
    ap (at f) m ∙ ap (λ (w : Forest × ℕ). at w.0 (min (w.1 + 1) (flat_len w.0))) e

pub not_bumped : (v : Forest × ℕ) (f : Forest) (n : ℕ) → at f n ≡ v → n ≡ flat_len f
    → v ≡ at v.0 (min (v.1 + 1) (flat_len v.0))
not_bumped v f n e h =
    let m : n ≡ min (n + 1) (flat_len f) = omega arith in
    sym e ∙ (ap (at f) m ∙ ap (λ (w : Forest × ℕ). at w.0 (min (w.1 + 1) (flat_len w.0))) e)

pub next_depth : (f : Forest) (n depth : ℕ) (es : List Entry) (x : Entry) (more : List Entry) → es ≡ spell f
    → depth ≡ length (rests f n).1 → drop n es ≡ x ∷ more
    → DepthAfter x depth (length (rests f (n + 1)).1)
next_depth f n depth es x more e d h = rw d (depth_after f n es x more e h)

walk_split : (a b : ℕ) (r : Rests) → walk (a + b) r ≡ walk b (walk a r)
walk_split zero b r = let h : 0 + b ≡ b = omega arith in ap (λ (k : ℕ). walk k r) h
walk_split (suc a) b r =
    let h : suc a + b ≡ suc (a + b) = omega arith in
    ap (λ (k : ℕ). walk k r) h ∙ walk_split a b (step r.0 r.1)

walk_all : (f : Forest) (around : List Forest) → walk (flat_len f) (f, around) ≡ (none, around)
walk_all none around = refl
walk_all (leaf l rest) around =
    let h : 1 + flat_len rest ≡ suc (flat_len rest) = omega arith in
    ap (λ (k : ℕ). walk k (leaf l rest, around)) h ∙ walk_all rest around
walk_all (group d inside rest) around =
    let h : 2 + flat_len inside + flat_len rest ≡ suc (flat_len inside + suc (flat_len rest)) = omega arith in
    ap (λ (k : ℕ). walk k (group d inside rest, around)) h
    ∙ (walk_split (flat_len inside) (suc (flat_len rest)) (inside, rest ∷ around)
    ∙ (ap (walk (suc (flat_len rest))) (walk_all inside (rest ∷ around)) ∙ walk_all rest around))

-- after a group's opening: its content is consumed, and its closing
past_group : (inside rest : Forest) (around : List Forest) (n m : ℕ) → n ≡ flat_len inside + suc m
    → walk n (inside, rest ∷ around) ≡ walk m (rest, around)
past_group inside rest around n m e =
    ap (λ (k : ℕ). walk k (inside, rest ∷ around)) e
    ∙ (walk_split (flat_len inside) (suc m) (inside, rest ∷ around)
    ∙ ap (walk (suc m)) (walk_all inside (rest ∷ around)))

within_at : (n m : ℕ) → (n ≤ m) ⊎ (n ≡ m + suc (n - m - 1))
within_at n m = elim (cases_lt m n) [ inl lt ↦ inr (omega arith) | inr le ↦ inl le ]

-- what is left from a place on, as the definition of a place has it
pub rest_at-walk : (f : Forest) (around : List Forest) (n : ℕ) → n ≤ flat_len f → (walk n (f, around)).0 ≡ rest_at f n
rest_at-walk f around zero h = sym (rest_at-zero f)
rest_at-walk none around (suc n) h = absurd (omega arith)
rest_at-walk (leaf l rest) around (suc n) h = rest_at-walk rest around n (omega arith)
rest_at-walk (group d inside rest) around (suc n) h =
    elim (within_at n (flat_len inside)) [
      | inl le ↦ rest_at-walk inside (rest ∷ around) n le ∙ sym (rest_at-in_group d inside rest n le)
      | inr e ↦ ap (λ (r : Rests). r.0) (past_group inside rest around n (n - flat_len inside - 1) e)
          ∙ (rest_at-walk rest around (n - flat_len inside - 1) (omega arith)
          ∙ sym (rest_at-following_group d inside rest n (omega arith)))
    ]

-- as many groups are left around a place as the definition counts
pub depth_at-walk : (f : Forest) (around : List Forest) (n : ℕ) → n ≤ flat_len f
    → length (walk n (f, around)).1 ≡ depth_at f n + length around
depth_at-walk none around zero h = omega arith
depth_at-walk (leaf l rest) around zero h = omega arith
depth_at-walk (group d inside rest) around zero h = omega arith
depth_at-walk none around (suc n) h = absurd (omega arith)
depth_at-walk (leaf l rest) around (suc n) h = depth_at-walk rest around n (omega arith)
depth_at-walk (group d inside rest) around (suc n) h =
    elim (within_at n (flat_len inside)) [
      | inl le ↦ (let e = depth_at-walk inside (rest ∷ around) n le in
          let k = depth_at-in_group d inside rest n le in
          omega (arith, e, k))
      | inr past ↦ (let m : ℕ = n - flat_len inside - 1 in
          let e = depth_at-walk rest around m (omega arith) in
          let k = depth_at-following_group d inside rest n (omega arith) in
          let w = ap (λ (r : Rests). length r.1) (past_group inside rest around n m past) in
          omega (arith, e, k, w))
    ]

pub rest_at-rests : (f : Forest) (n : ℕ) → n ≤ flat_len f → (rests f n).0 ≡ rest_at f n
rest_at-rests f n h = rest_at-walk f [] n h

pub depth_at-rests : (f : Forest) (n : ℕ) → n ≤ flat_len f → length (rests f n).1 ≡ depth_at f n
depth_at-rests f n h = let e = depth_at-walk f [] n h in omega (arith, e)

no_length : {A : Type 0} (xs : List A) → length xs ≡ 0 → xs ≡ []
no_length [] e = refl
no_length (x ∷ xs) e = absurd (omega arith)

pub root-rests : (f : Forest) (n : ℕ) → n ≤ flat_len f → depth_at f n ≡ 0 → (rests f n).1 ≡ []
root-rests f n h e = no_length (rests f n).1 (depth_at-rests f n h ∙ e)

pub record Within (around : List Forest) (r : Rests) : Type 0 where
  pub more : List Forest
  pub is : r.1 ≡ more ++ around

walk_within : (f : Forest) (around : List Forest) (n : ℕ) → n ≤ flat_len f → Within around (walk n (f, around))
walk_within f around zero h = record { more = []; is = refl }
walk_within none around (suc n) h = absurd (omega arith)
walk_within (leaf l rest) around (suc n) h = walk_within rest around n (omega arith)
walk_within (group d inside rest) around (suc n) h =
    elim (within_at n (flat_len inside)) [
      | inl le ↦ (let w = walk_within inside (rest ∷ around) n le in
          record { more = w.more ++ rest ∷ []; is = w.is ∙ sym (append_assoc w.more (rest ∷ []) around) })
      | inr e ↦ (let w = walk_within rest around (n - flat_len inside - 1) (omega arith) in
          record {
            more = w.more;
            is = ap (λ (r : Rests). r.1)
                (past_group inside rest around n (n - flat_len inside - 1) e) ∙ w.is;
          })
    ]

pub record Crossed (f : Forest) (n : ℕ) : Type 0 where
  pub passed : Forest
  pub is : f ≡ append passed (rests f n).0
  pub len : flat_len passed ≡ n

not_root : (more : List Forest) (rest : Forest) (r : List Forest) → r ≡ more ++ rest ∷ [] → r ≡ [] → ⊥
not_root more rest r e h = let k = length-append more (rest ∷ []) in omega (arith, ap length e, ap length h, k)

pub crossed_is : (f : Forest) (n : ℕ) → n ≤ flat_len f → (rests f n).1 ≡ [] → Crossed f n
crossed_is f zero h root = record { passed = none; is = refl; len = refl }
crossed_is none (suc n) h root = absurd (omega arith)
crossed_is (leaf l rest) (suc n) h root =
    let c = crossed_is rest n (omega arith) root in
    record { passed = leaf l c.passed; is = ap (leaf l) c.is; len = omega (arith, c.len) }
crossed_is (group d inside rest) (suc n) h root =
    elim (within_at n (flat_len inside)) [
      | inl le ↦ (let w = walk_within inside (rest ∷ []) n le in absurd (not_root w.more rest _ w.is root))
      | inr e ↦ (
          let m : ℕ = n - flat_len inside - 1 in
          let past = past_group inside rest [] n m e in
          let c = crossed_is rest m (omega arith) (ap (λ (r : Rests). r.1) (sym past) ∙ root) in
          record {
            passed = group d inside c.passed;
            is = ap (group d inside) (c.is ∙ ap (λ (r : Rests). append c.passed r.0) (sym past));
            len = omega (arith, c.len, e);
          })
    ]

pub passed_entries : (f : Forest) (n : ℕ) (es : List Entry) (c : Crossed f n) → es ≡ spell f
    → take n es ≡ spell c.passed
passed_entries f n es c e =
    take_front n (spell c.passed) (spell (rests f n).0) es (sym c.len ∙ sym (length-spell c.passed))
    (e ∙ (ap spell c.is ∙ spell-append c.passed (rests f n).0))

pub left_at_root : (f : Forest) (n : ℕ) (es : List Entry) → es ≡ spell f → (rests f n).1 ≡ []
    → drop n es ≡ spell (rests f n).0
left_at_root f n es e root =
    left_is f n es e ∙ (ap (λ (a : List Forest). spell (rests f n).0 ++ closings a) root
    ∙ append-nil (spell (rests f n).0))

first_none : (f : Forest) (a : List Forest) → spell_rests (f, a) ≡ [] → first f ≡ None
first_none none a e = refl
first_none (leaf l rest) a e = cc
first_none (group d inside rest) a e = cc

first_leaf : (f : Forest) (a : List Forest) (l : TheLeaf) (es : List Entry) → spell_rests (f, a) ≡ Leaf l ∷ es
    → first f ≡ Some (Leaf_tree l)
first_leaf none [] l es e = cc
first_leaf none (g ∷ a) l es e = cc
first_leaf (leaf m rest) a l es e = let h : m ≡ l = cc in ap (λ (x : TheLeaf). Some (Leaf_tree x)) h
first_leaf (group d inside rest) a l es e = cc

pub leaf_tree : (r : Rests) (left more : List Entry) (l : TheLeaf) → left ≡ spell_rests r → left ≡ Leaf l ∷ more
    → first r.0 ≡ Some (Leaf_tree l)
leaf_tree r left more l e h = first_leaf r.0 r.1 l more (sym e ∙ h)

pub record FirstGroup (r : Rests) (s : Subtree) (n : ℕ) (more : List Entry) : Type 0 where
  pub inside : Forest
  pub following : List Entry
  pub is : first r.0 ≡ Some (Group_tree s.delimiter inside)
  pub len : n ≡ length (spell inside)
  pub entries : more ≡ spell inside ++ following

first_group_at : (f : Forest) (a : List Forest) (s : Subtree) (n : ℕ) (more : List Entry)
    → spell_rests (f, a) ≡ Open s n ∷ more → FirstGroup (f, a) s n more
first_group_at none [] s n more e = cc
first_group_at none (g ∷ a) s n more e = cc
first_group_at (leaf l rest) a s n more e = cc
first_group_at (group d inside rest) a s n more e =
    let h : record { delimiter = d } ≡ s = cc in
    let k : flat_len inside ≡ n = cc in
    let m : (spell inside ++ Close ∷ spell rest) ++ closings a ≡ more = cc in
    record {
      inside = inside;
      following = (Close ∷ spell rest) ++ closings a;
      is = ap (λ (t : Subtree). Some (Group_tree t.delimiter inside)) h;
      len = sym k ∙ sym (length-spell inside);
      entries = sym m ∙ append_assoc (spell inside) (Close ∷ spell rest) (closings a);
    }

pub first_group : (r : Rests) (left : List Entry) (s : Subtree) (n : ℕ) (more : List Entry) → left ≡ spell_rests r
    → left ≡ Open s n ∷ more → FirstGroup r s n more
first_group r left s n more e h = first_group_at r.0 r.1 s n more (sym e ∙ h)
