-- Where a count of flat tokens ends: between trees, or inside a group whose end the shortest front reaches.
use Rattle.std.proofs.Common.{◌≡◌, ◌≤◌, ◌+◌, ◌-◌, ◌==◌, ℕ, zero, suc, Bool, true, false, IsTrue, inl, inr, refl, sym}
use Rattle.std.proofs.Common.{ap, subst, ◌∙◌, arith}
use Rattle.std.specs.Prelude.{min, not, ◌↔◌, ◌⊎◌}
use Rattle.std.proofs.lemmas.Bool.{eq-eqb, ne_eqb}
use Rattle.mbe_tt.specs.declared.tt.Delimiter.{Delimiter}
use Rattle.mbe_tt.specs.Trees.Tree.{Forest, none, leaf, group, append, flat_len, rest_at, depth_at, Cut, leaf_before}
use Rattle.mbe_tt.specs.Trees.Tree.{group_before, cut_flat}
use Rattle.mbe_tt.specs.Trees.Leaf.{Leaf}
use Rattle.mbe_tt.specs.Trees.Tree.{flat}
use Rattle.mbe_tt.specs.Grammars.Grammar.{Grammar, IsLawful, front, is_accepted}
use Rattle.mbe_tt.specs.Buffers.Offsets.{CursorValue, cursor_trees, offset_of, rest_at_cursor, IsAtRoot}
use Rattle.mbe_tt.specs.declared.grammar.Front.{Front}
use Rattle.mbe_tt.specs.declared.grammar.PrefixEntryPoint.{PrefixEntryPoint}
use Rattle.mbe_tt.proofs.Offsets.CutLemmas.{no_true, cut_flat-append, flat_length, shortest_cut}
use Rattle.mbe_tt.proofs.Offsets.OffsetLemmas.{rest_at-append, rest_at-zero, depth_at-zero, depth_at-in_group}
use Rattle.mbe_tt.proofs.Offsets.OffsetLemmas.{depth_at-following_group}

-- ---- groups around a place

-- between two trees no group is open
pub between_trees : (t h : Forest) → depth_at (append t h) (flat_len t) ≡ 0
between_trees none h = depth_at-zero h
between_trees (leaf l t) h =
    ap (depth_at (leaf l (append t h))) (let k : flat_len (leaf l t) ≡ suc (flat_len t) = omega arith in k)
    ∙ between_trees t h
between_trees (group d inside t) h =
    let e : flat_len inside + flat_len t + 1 - flat_len inside - 1 ≡ flat_len t = omega arith in
    ap (depth_at (group d inside (append t h)))
    (let k : flat_len (group d inside t) ≡ suc (flat_len inside + flat_len t + 1) = omega arith in k)
    ∙ (depth_at-following_group d inside (append t h) (flat_len inside + flat_len t + 1) (omega arith)
    ∙ (ap (depth_at (append t h)) e ∙ between_trees t h))

two : (n m : ℕ) → (n ≤ m) ⊎ (m + 1 ≤ n)
two n m = grind arith

-- a count that ends between two trees is that of the shortest front
pub ends_between : (f : Forest) (n : ℕ) → n ≤ flat_len f → depth_at f n ≡ 0 → flat_len (cut_flat n f).front ≡ n
ends_between none n h e = omega (arith, h)
ends_between (leaf l rest) zero h e = refl
ends_between (leaf l rest) (suc n) h e = let k = ends_between rest n (omega (arith, h)) e in omega (arith, k)
ends_between (group d inside rest) zero h e = refl
ends_between (group d inside rest) (suc n) h e = go (λ m u v. ends_between rest m u v) (two n (flat_len inside))
  where
    go : ((m : ℕ) → m ≤ flat_len rest → depth_at rest m ≡ 0 → flat_len (cut_flat m rest).front ≡ m)
        → (n ≤ flat_len inside) ⊎ (flat_len inside + 1 ≤ n)
        → flat_len (cut_flat (suc n) (group d inside rest)).front ≡ suc n
    go following (inl k) = let u = sym (depth_at-in_group d inside rest n k) ∙ e in absurd (omega (arith, u))
    go following (inr k) =
        let u = sym (depth_at-following_group d inside rest n k) ∙ e in
        let v = following (n - flat_len inside - 1) (omega (arith, h, k)) u in
        omega (arith, v, k)

-- a count that ends inside a group has the same shortest front as the next
pub ends_inside : (f : Forest) (n : ℕ) → n ≤ flat_len f → (depth_at f n ≡ 0 → ⊥)
    → (suc n ≤ flat_len f) × (cut_flat (suc n) f ≡ cut_flat n f)
ends_inside none n h e = absurd (e refl)
ends_inside (leaf l rest) zero h e = absurd (e refl)
ends_inside (leaf l rest) (suc n) h e = let k =
    ends_inside rest n (omega (arith, h)) e in (omega (arith, k.0), ap (leaf_before l) k.1)
ends_inside (group d inside rest) zero h e = absurd (e refl)
ends_inside (group d inside rest) (suc n) h e = go (λ m u v. ends_inside rest m u v) (two n (flat_len inside))
  where
    cuts : (m q : ℕ) → m ≡ q → group_before d inside (cut_flat m rest) ≡ group_before d inside (cut_flat q rest)
    cuts m q u = ap (λ k. group_before d inside (cut_flat k rest)) u

    go : ((m : ℕ) → m ≤ flat_len rest → (depth_at rest m ≡ 0 → ⊥)
        → (suc m ≤ flat_len rest) × (cut_flat (suc m) rest ≡ cut_flat m rest))
        → (n ≤ flat_len inside) ⊎ (flat_len inside + 1 ≤ n)
        → (suc (suc n) ≤ flat_len (group d inside rest))
        × (cut_flat (suc (suc n)) (group d inside rest) ≡ cut_flat (suc n) (group d inside rest))
    go following (inl k) = (
      omega (arith, k),
      cuts (suc n - flat_len inside - 1) (n - flat_len inside - 1) (omega (arith, k)),
    )
    go following (inr k) =
        let m = n - flat_len inside - 1 in
        let u = following m (omega (arith, h, k)) (λ z. e (depth_at-following_group d inside rest n k ∙ z)) in (
          omega (arith, u.0, k),
          cuts (suc n - flat_len inside - 1) (suc m) (omega (arith, k))
              ∙ ap (group_before d inside) u.1,
        )

-- ---- a cursor

-- one flat token more, where the cursor is in a group
pub goes_on : (cursor moved : CursorValue) (f : Forest) → cursor_trees cursor ≡ f → offset_of cursor ≤ flat_len f
    → (IsAtRoot cursor → ⊥)
    → moved ≡ (cursor_trees cursor, min (offset_of cursor + 1) (flat_len (cursor_trees cursor)))
    → (cursor_trees moved ≡ f) × (offset_of moved ≡ offset_of cursor + 1) × (offset_of cursor + 1 ≤ flat_len f)
    × (cut_flat (offset_of moved) f ≡ cut_flat (offset_of cursor) f)
goes_on cursor moved f v h n m =
    let i = ends_inside f (offset_of cursor) h (λ e. n (ap (λ (t : Forest). depth_at t (offset_of cursor)) v ∙ e)) in
    let k : flat_len (cursor_trees cursor) ≡ flat_len f = ap flat_len v in
    let l : suc (offset_of cursor) ≤ flat_len f = i.0 in
    let s : min (offset_of cursor + 1) (flat_len (cursor_trees cursor)) ≡ suc (offset_of cursor) =
    omega (arith, k, l) in
    let p : offset_of moved ≡ suc (offset_of cursor) = ap offset_of m ∙ s in
    (ap cursor_trees m ∙ v, omega (arith, p), omega (arith, l), ap (λ (q : ℕ). cut_flat q f) p ∙ i.1)

-- the cursor that is between two trees is after the shortest front
pub placed_after : (cursor start : CursorValue) (f : Forest) → cursor_trees cursor ≡ f → offset_of cursor ≤ flat_len f
    → IsAtRoot cursor
    → cut_flat (offset_of cursor) f ≡ cut_flat (offset_of start) f
    → cursor ≡ (f, flat_len (cut_flat (offset_of start) f).front)
placed_after cursor start f v h r c =
    let e = ends_between f (offset_of cursor) h (ap (λ (t : Forest). depth_at t (offset_of cursor)) (sym v) ∙ r) in
    let p : offset_of cursor ≡ flat_len (cut_flat (offset_of start) f).front =
    sym e ∙ ap (λ (x : Cut). flat_len x.front) c in
    ap (λ (t : Forest). (t, offset_of cursor)) v ∙ ap (λ (q : ℕ). (f, q)) p

-- ---- what a grammar counts

-- it counts no more than there is
pub counted_within : (g : Grammar) (entry : PrefixEntryPoint) (f : Forest) (counted : Front) → IsLawful g
    → counted ≡ g.parse entry (flat f) → counted.count ≤ flat_len f
counted_within g entry f counted l e =
    let w = l.within entry (flat f) in
    let n : counted.count ≡ (g.parse entry (flat f)).count = ap (λ (x : Front). x.count) e in
    let k = flat_length f in
    omega (arith, w, n, k)

-- whether the count ends between two trees
pub ends_well : (f : Forest) (n : ℕ) (r : Bool) → n ≤ flat_len f → (IsTrue r ↔ (depth_at f n ≡ 0))
    → r ≡ (flat_len (cut_flat n f).front == n)
ends_well f n true h d = sym (eq-eqb (flat_len (cut_flat n f).front) n (ends_between f n h (d.0 refl)))
ends_well f n false h d =
    let i = ends_inside f n h (λ e. no_true (d.1 e)) in
    let k = shortest_cut.enough (suc n) f i.0 in
    let s : flat_len (cut_flat (suc n) f).front ≡ flat_len (cut_flat n f).front =
    ap (λ (x : Cut). flat_len x.front) i.1 in
    sym (ne_eqb (flat_len (cut_flat n f).front) n (λ e. absurd (omega (arith, k, s, e))))

-- ---- the front

-- trees at the front are known by their length
same_front : (a b c d : Forest) → append a b ≡ append c d → flat_len a ≡ flat_len c → a ≡ c
same_front none b none d e n = refl
same_front none b (leaf k c) d e n = absurd (omega (arith, n))
same_front none b (group i x c) d e n = absurd (omega (arith, n))
same_front (leaf l a) b none d e n = absurd (omega (arith, n))
same_front (leaf l a) b (leaf k c) d e n =
    let u : l ≡ k = cc in
    let v : append a b ≡ append c d = cc in
    let w = same_front a b c d v (omega (arith, n)) in
    ap (λ (x : Leaf). leaf x a) u ∙ ap (leaf k) w
same_front (leaf l a) b (group i x c) d e n = absurd (cc)
same_front (group j y a) b none d e n = absurd (omega (arith, n))
same_front (group j y a) b (leaf k c) d e n = absurd (cc)
same_front (group j y a) b (group i x c) d e n =
    let u : j ≡ i = cc in
    let t : y ≡ x = cc in
    let v : append a b ≡ append c d = cc in
    let m : flat_len y ≡ flat_len x = ap flat_len t in
    let w = same_front a b c d v (omega (arith, n, m)) in
    ap (λ (z : Delimiter). group z y a) u ∙ (ap (λ (z : Forest). group i z a) t ∙ ap (group i x) w)

-- a cursor after the shortest front that holds n flat tokens
module _ (f : Forest) (n : ℕ) (cursor : CursorValue) (at : cursor ≡ (f, flat_len (cut_flat n f).front)) where
  pub after_all_groups : IsAtRoot cursor
  after_all_groups =
      ap (λ (c : CursorValue). depth_at c.0 c.1) at
      ∙ (ap (λ (t : Forest). depth_at t (flat_len (cut_flat n f).front)) (sym (cut_flat-append n f))
      ∙ between_trees (cut_flat n f).front (cut_flat n f).back)

  pub crossed_front : (a : Forest) → append a (rest_at_cursor cursor) ≡ cursor_trees cursor → flat_len a
      ≡ offset_of cursor
      → a ≡ (cut_flat n f).front
  crossed_front a e k =
      same_front a (rest_at_cursor cursor) (cut_flat n f).front (cut_flat n f).back
      (e ∙ (ap cursor_trees at ∙ sym (cut_flat-append n f))) (k ∙ ap offset_of at)

  pub left_back : (left : Forest) → left ≡ rest_at f (offset_of cursor) → left ≡ (cut_flat n f).back
  left_back left e =
      e ∙ (ap (rest_at f) (ap offset_of at)
      ∙ (ap (λ (t : Forest). rest_at t (flat_len (cut_flat n f).front)) (sym (cut_flat-append n f))
      ∙ (rest_at-append (cut_flat n f).front (cut_flat n f).back 0 (flat_len (cut_flat n f).front) (omega arith)
      ∙ rest_at-zero (cut_flat n f).back)))

-- ---- the front of a grammar, where f is what the grammar is asked about

module _ (g : Grammar) (entry : PrefixEntryPoint) (f : Forest) (counted : Front) (asked : Forest) (same : asked ≡ f)
    (is : counted ≡ g.parse entry (flat asked))
    (start : CursorValue) (begins : start ≡ (asked, counted.count)) where
  answer : counted ≡ g.parse entry (flat f)
  answer = is ∙ ap (λ (t : Forest). g.parse entry (flat t)) same

  count : counted.count ≡ (g.parse entry (flat f)).count
  count = ap (λ (x : Front). x.count) answer

  begins_at : start ≡ (f, counted.count)
  begins_at = begins ∙ ap (λ (t : Forest). let p : CursorValue = (t, counted.count) in p) same

  -- where the cursor is once it has left all groups
  pub placed_at : (cursor : CursorValue) → cursor
      ≡ (cursor_trees start, flat_len (cut_flat (offset_of start) (cursor_trees start)).front)
      → cursor ≡ (f, flat_len (front g entry f).front)
  placed_at cursor e =
      e ∙ (ap (λ (p : CursorValue). let q : CursorValue =
      (cursor_trees p, flat_len (cut_flat (offset_of p) (cursor_trees p)).front) in q)
      begins_at
      ∙ ap (λ (n : ℕ). let q : CursorValue = (f, flat_len (cut_flat n f).front) in q) count)

  -- the front is good where the grammar doesn't fault and its count ends between two trees
  pub good_counted : (r : Bool) → IsLawful g → (IsTrue r ↔ IsAtRoot start) → not counted.fault ≡ true
      → r ≡ is_accepted g entry f
  good_counted r l d e =
      let h = counted_within g entry f counted l answer in
      let b : not (g.parse entry (flat f)).fault ≡ true = ap (λ (x : Front). not x.fault) (sym answer) ∙ e in
      rw (b, sym count) (ends_well f counted.count r h (subst (λ (c : CursorValue). IsTrue r ↔ IsAtRoot c) begins_at d))

  -- and else it isn't
  pub bad_counted : (r : Bool) → r ≡ not counted.fault → not counted.fault ≡ false → r ≡ is_accepted g entry f
  bad_counted r k e =
      let b : not (g.parse entry (flat f)).fault ≡ false = ap (λ (x : Front). not x.fault) (sym answer) ∙ e in
      rw b (k ∙ e)
