-- A list of trees has no key twice, and holds all that idle steps lead to. Speaks of no pattern.
use Rattle.std.proofs.Common.{ℕ, zero, suc, ◌+◌, ◌≡◌, ◌⊎◌, ◌<◌, ◌≤◌, inl, inr, Bool, true, false, List, [], ◌∷◌, ◌++◌}
use Rattle.std.proofs.Common.{refl, sym, ◌∙◌, ap, subst, arith, eq-or-lt_of_le}
use Rattle.std.specs.List.{flat_map}
use Rattle.mbe_semantics.specs.Readings.Steps.{tree}
use Rattle.mbe_semantics.specs.Matching.Lists.{In, Distinct, NoneAt}

pub in_left : {A : Type 0} (x : A) (xs ys : List A) → In x xs → In x (xs ++ ys)
in_left x [] ys h = absurd h
in_left x (y ∷ xs) ys (inl e) = inl e
in_left x (y ∷ xs) ys (inr h) = inr (in_left x xs ys h)

pub in_right : {A : Type 0} (x : A) (xs ys : List A) → In x ys → In x (xs ++ ys)
in_right x [] ys h = h
in_right x (y ∷ xs) ys h = inr (in_right x xs ys h)

pub in_either : {A : Type 0} (x : A) (xs ys : List A) → In x (xs ++ ys) → In x xs ⊎ In x ys
in_either x [] ys h = inr h
in_either x (y ∷ xs) ys (inl e) = inl (inl e)
in_either x (y ∷ xs) ys (inr h) = elim (in_either x xs ys h) [ inl a ↦ inl (inr a) | inr b ↦ inr b ]

pub in_flat : {A B : Type 0} (f : A → List B) (y : B) (x : A) (xs : List A) → In x xs → In y (f x)
    → In y (flat_map f xs)
in_flat f y x [] h m = absurd h
in_flat f y x (z ∷ xs) (inl e) m = in_left y (f z) (flat_map f xs) (subst (λ v. In y (f v)) e m)
in_flat f y x (z ∷ xs) (inr h) m = in_right y (f z) (flat_map f xs) (in_flat f y x xs h m)

pub from_flat : {A B : Type 0} (f : A → List B) (y : B) (xs : List A) → In y (flat_map f xs)
    → (x : A) × In x xs × In y (f x)
from_flat f y [] h = absurd h
from_flat {A} f y (z ∷ xs) h = elim (in_either y (f z) (flat_map f xs) h)
    [ inl a ↦ (z, inl refl, a) | inr b ↦ more (from_flat f y xs b) ]
  where
    more : ((x : A) × In x xs × In y (f x)) → (x : A) × In x (z ∷ xs) × In y (f x)
    more r = (r.0, inr r.1, r.2)

pub distinct_append : {A K : Type 0} (key : A → K) (xs ys : List A) → Distinct key xs → Distinct key ys →
    ((x y : A) → In x xs → In y ys → key x ≡ key y → ⊥) → Distinct key (xs ++ ys)
distinct_append key [] ys a b c = b
distinct_append {A} {K} key (x ∷ xs) ys a b c = (none, distinct_append key xs ys a.1 b (λ u v m n. c u v (inr m) n))
  where
    none : NoneAt key (key x) (xs ++ ys)
    none y h = elim (in_either y xs ys h) [ inl m ↦ a.0 y m | inr n ↦ c x y (inl refl) n ]

distinct_flat : {A K : Type 0} (key : A → K) (f : A → List A) (xs : List A) →
    ((x : A) → In x xs → Distinct key (f x)) → Distinct key xs →
    ((x z : A) → In x xs → In z xs → (key x ≡ key z → ⊥) → (u v : A) → In u (f x) → In v (f z) → key u ≡ key v → ⊥) →
    Distinct key (flat_map f xs)
distinct_flat key f [] a b c = tt
distinct_flat {A} {K} key f (x ∷ xs) a b c =
    distinct_append key (f x) (flat_map f xs) (a x (inl refl))
    (distinct_flat key f xs (λ z m. a z (inr m)) b.1 (λ u v m n. c u v (inr m) (inr n)))
    (λ u v m n e. across u v m (from_flat f v xs n) e)
  where
    across : (u v : A) → In u (f x) → ((z : A) × In z xs × In v (f z)) → key u ≡ key v → ⊥
    across u v m r e = c x r.0 (inl refl) (inr r.1) (b.0 r.0 r.1) u v m r.2 e

-- y is k steps below x
abbrev pub Below : {A : Type 0} → (A → List A) → ℕ → A → A → Type 0
Below kids zero y x = y ≡ x
Below {A} kids (suc k) y x = (z : A) × In z (kids x) × Below kids k y z

abbrev back : {K : Type 0} → (K → K) → ℕ → K → K
back before zero s = s
back before (suc k) s = before (back before k s)

pub below_of : {A : Type 0} (kids : A → List A) (n : ℕ) (x y : A) → In y (tree kids n x) → (k : ℕ) × Below kids k y x
unfolding tree
below_of kids zero x y h = absurd h
below_of kids (suc n) x y (inl e) = (0, e)
below_of {A} kids (suc n) x y (inr h) =
    let r : (z : A) × In z (kids x) × In y (tree kids n z) = from_flat (tree kids n) y (kids x) h in
    let b : (k : ℕ) × Below kids k y r.0 = below_of kids n r.0 y r.2 in
    (suc b.0, (r.0, r.1, b.1))

module _ {A K : Type 0} (kids : A → List A) (key : A → K) (before : K → K) (steps : K → ℕ) (fresh : K → Bool)
    (after : (x y : A) → In y (kids x) → (before (key y) ≡ key x) × (steps (key y) ≡ suc (steps (key x)))
    × (fresh (key y) ≡ false))
    (apart : (x : A) → Distinct key (kids x)) where
  back_key : (k : ℕ) (y x : A) → Below kids k y x → back before k (key y) ≡ key x
  back_key zero y x e = ap key e
  back_key (suc k) y x h = ap before (back_key k y h.0 h.2) ∙ (after x h.0 h.1).0

  steps_key : (k : ℕ) (y x : A) → Below kids k y x → steps (key y) ≡ steps (key x) + k
  steps_key zero y x e = let f : steps (key y) ≡ steps (key x) = ap (λ v. steps (key v)) e in omega arith
  steps_key (suc k) y x h =
      let a : steps (key y) ≡ steps (key h.0) + k = steps_key k y h.0 h.2 in
      let b : steps (key h.0) ≡ suc (steps (key x)) = (after x h.0 h.1).1 in
      omega arith

  stale_key : (k : ℕ) (y x : A) → Below kids k y x → (j : ℕ) → j < k → fresh (back before j (key y)) ≡ false
  stale_key zero y x e j l = absurd (omega arith)
  stale_key (suc k) y x h j l =
      elim (eq-or-lt_of_le (let m : j ≤ k = omega arith in m)) [
        | inl e ↦ ap (λ v. fresh (back before v (key y))) e ∙ ap fresh (back_key k y h.0 h.2) ∙ (after x h.0 h.1).2
        | inr m ↦ stale_key k y h.0 h.2 j m
      ]

  pub tree-distinct : (n : ℕ) (x : A) → Distinct key (tree kids n x)
  unfolding tree
  tree-distinct zero x = tt
  tree-distinct (suc n) x = (none, distinct_flat key (tree kids n) (kids x) (λ z m. tree-distinct n z) (apart x) across)
    where
      deeper : (y : A) → ((z : A) × In z (kids x) × In y (tree kids n z)) → key x ≡ key y → ⊥
      deeper y r e =
          let b : (k : ℕ) × Below kids k y r.0 = below_of kids n r.0 y r.2 in
          let s : steps (key y) ≡ steps (key r.0) + b.0 = steps_key b.0 y r.0 b.1 in
          let t : steps (key r.0) ≡ suc (steps (key x)) = (after x r.0 r.1).1 in
          let u : steps (key x) ≡ steps (key y) = ap steps e in
          omega arith

      none : NoneAt key (key x) (flat_map (tree kids n) (kids x))
      none y h = deeper y (from_flat (tree kids n) y (kids x) h)

      across : (z w : A) → In z (kids x) → In w (kids x) → (key z ≡ key w → ⊥) → (u v : A) → In u (tree kids n z)
          → In v (tree kids n w) → key u ≡ key v → ⊥
      across z w m o d u v p q e =
          let b : (k : ℕ) × Below kids k u z = below_of kids n z u p in
          let c : (k : ℕ) × Below kids k v w = below_of kids n w v q in
          let s : steps (key u) ≡ steps (key z) + b.0 = steps_key b.0 u z b.1 in
          let t : steps (key v) ≡ steps (key w) + c.0 = steps_key c.0 v w c.1 in
          let s' : steps (key z) ≡ suc (steps (key x)) = (after x z m).1 in
          let t' : steps (key w) ≡ suc (steps (key x)) = (after x w o).1 in
          let f : steps (key u) ≡ steps (key v) = ap steps e in
          let g : b.0 ≡ c.0 = omega arith in
          d (sym (back_key b.0 u z b.1) ∙ ap (λ j. back before j (key u)) g ∙ ap (back before c.0) e
          ∙ back_key c.0 v w c.1)

  lower_root : (z w u v : A) (j k : ℕ) → fresh (key z) ≡ true → Below kids j u z → Below kids k v w → key u ≡ key v
      → j < k → ⊥
  lower_root z w u v j k a b c e l =
      let f : fresh (key z) ≡ false = ap fresh (sym (back_key j u z b) ∙ ap (back before j) e)
      ∙ stale_key k v w c j l in
      let g : true ≡ false = sym a ∙ f in
      cc

  pub forest-distinct : (n : A → ℕ) (xs : List A) → ((x : A) → In x xs → fresh (key x) ≡ true) → Distinct key xs
      → Distinct key (flat_map (λ x. tree kids (n x) x) xs)
  forest-distinct n xs a d = distinct_flat key (λ x. tree kids (n x) x) xs (λ x m. tree-distinct (n x) x) d across
    where
      equal : (z w u v : A) (j k : ℕ) → (key z ≡ key w → ⊥) → Below kids j u z → Below kids k v w → key u ≡ key v
          → j ≡ k → ⊥
      equal z w u v j k d' b c e g =
          d' (sym (back_key j u z b) ∙ ap (λ l. back before l (key u)) g ∙ ap (back before k) e ∙ back_key k v w c)

      either : (z w u v : A) (j k : ℕ) → fresh (key z) ≡ true → fresh (key w) ≡ true → (key z ≡ key w → ⊥)
          → Below kids j u z → Below kids k v w → key u ≡ key v →
          ((j ≤ k) ⊎ (k ≤ j)) → ⊥
      either z w u v j k fz fw d' b c e (inl l) =
          elim (eq-or-lt_of_le l) [ inl g ↦ equal z w u v j k d' b c e g | inr m ↦ lower_root z w u v j k fz b c e m ]
      either z w u v j k fz fw d' b c e (inr l) =
          elim (eq-or-lt_of_le l) [
            | inl g ↦ equal z w u v j k d' b c e (sym g)
            | inr m ↦ lower_root w z v u k j fw c b
                (sym e) m
          ]

      across : (z w : A) → In z xs → In w xs → (key z ≡ key w → ⊥) → (u v : A) → In u (tree kids (n z) z)
          → In v (tree kids (n w) w) → key u ≡ key v → ⊥
      across z w m o d' u v p q e =
          let b : (k : ℕ) × Below kids k u z = below_of kids (n z) z u p in
          let c : (k : ℕ) × Below kids k v w = below_of kids (n w) w v q in
          either z w u v b.0 c.0 (a z m) (a w o) d' b.1 c.1 e (let t : (b.0 ≤ c.0) ⊎ (c.0 ≤ b.0) = grind arith in t)

pub root_in : {A : Type 0} (kids : A → List A) (n : ℕ) (x : A) → 0 < n → In x (tree kids n x)
unfolding tree
root_in kids zero x l = absurd (omega arith)
root_in kids (suc n) x l = inl refl

-- Where a number falls at each step, a tree of that depth is closed under steps.
module _ {A : Type 0} (kids : A → List A) (Good : A → Type 0) (rank : A → ℕ)
    (falls : (x y : A) → Good x → In y (kids x) → Good y × (rank y < rank x)) where
  pub tree-closed : (n : ℕ) (x : A) → Good x → rank x < n → (y z : A) → In y (tree kids n x) → In z (kids y)
      → In z (tree kids n x)
  unfolding tree
  tree-closed zero x g l y z h m = absurd h
  tree-closed (suc n) x g l y z (inl e) m =
      let k : In z (kids x) = subst (λ v. In z (kids v)) e m in
      inr (in_flat (tree kids n) z z (kids x) k
      (root_in kids n z (let s : rank z < rank x = (falls x z g k).1 in omega arith)))
  tree-closed (suc n) x g l y z (inr h) m =
      let r : (w : A) × In w (kids x) × In y (tree kids n w) = from_flat (tree kids n) y (kids x) h in
      let s : rank r.0 < rank x = (falls x r.0 g r.1).1 in
      inr (in_flat (tree kids n) z r.0 (kids x) r.1 (tree-closed n r.0 (falls x r.0 g r.1).0 (omega arith) y z r.2 m))

  flat_same : (g h : A → List A) (xs : List A) → ((x : A) → In x xs → g x ≡ h x) → flat_map g xs ≡ flat_map h xs
  flat_same g h [] e = refl
  flat_same g h (x ∷ xs) e = rw (e x (inl refl), flat_same g h xs (λ z m. e z (inr m))) refl

  pub tree-steady : (n m : ℕ) (x : A) → Good x → rank x < n → rank x < m → tree kids n x ≡ tree kids m x
  unfolding tree
  tree-steady zero m x g l l' = absurd (omega arith)
  tree-steady (suc n) zero x g l l' = absurd (omega arith)
  tree-steady (suc n) (suc m) x g l l' =
      ap (λ v. x ∷ v) (flat_same (tree kids n) (tree kids m) (kids x)
      (λ z k. let s : rank z < rank x = (falls x z g k).1 in
      tree-steady n m z (falls x z g k).0 (omega arith) (omega arith)))
