-- What a sifted list leaves out, and lists with the same members.
use Rattle.std.proofs.Common.{ℕ, suc, ◌≡◌, ◌⊎◌, ◌<◌, ◌≤◌, inl, inr, Bool, true, false, not, List, [], ◌∷◌, map, reverse}
use Rattle.std.proofs.Common.{length, refl, sym, ◌∙◌, ap, subst, arith, ◌-◌}
use Rattle.std.specs.Prelude.{nat_lt}
use Rattle.std.proofs.lemmas.Bool.{ltb-true}
use Rattle.std.proofs.lemmas.List.{reverse-append}
use Rattle.mbe_semantics.specs.Matching.Lists.{In, Distinct}
use Rattle.mbe_semantics.specs.Readings.Reading.{PartialReading}
use Rattle.mbe_semantics.specs.Matching.Trace.{trace}
use Rattle.mbe_laws.proofs.Matching.Forest.{distinct_append}
use Rattle.mbe_laws.specs.Bounded.ClosureTwoEach.{times, cons_if, first_of_each_key}
use Rattle.mbe_laws.specs.Orders.Order.{Orders, reversed_order}
use Rattle.mbe_laws.proofs.States.Sift.{times_same, times_grow, some_time, from_sift, times_other, equal_or_not}
use Rattle.mbe_laws.proofs.Reports.EndLemmas.{in_reverse, from_reverse}

module _ {A : Type 0} (key : A → ℕ) (k : ℕ) where
  unfoldable pub spare : List ℕ → List A → List A
  spare s [] = []
  spare s (x ∷ xs) = cons_if (not (nat_lt (times (key x) s) k)) x (spare (key x ∷ s) xs)

  from_cons : (b : Bool) (x y : A) (xs ys : List A) → (In y xs → In y ys) → In y (cons_if b x xs) → In y (x ∷ ys)
  from_cons true x y xs ys f (inl e) = inl e
  from_cons true x y xs ys f (inr m) = inr (f m)
  from_cons false x y xs ys f m = inr (f m)

  pub from_spare : (s : List ℕ) (xs : List A) (y : A) → In y (spare s xs) → In y xs
  unfolding spare
  from_spare s [] y h = h
  from_spare s (x ∷ xs) y h = from_cons (not (nat_lt (times (key x) s) k)) x y (spare (key x ∷ s) xs) xs
      (from_spare (key x ∷ s) xs y) h

  pub in_part : (s : List ℕ) (xs : List A) (y : A) → In y xs → In y (first_of_each_key key k s xs) ⊎ In y (spare s xs)
  unfolding spare
  in_part s [] y h = absurd h
  in_part s (x ∷ xs) y h = go (nat_lt (times (key x) s) k) h (λ m. in_part (key x ∷ s) xs y m)
    where
      go : (b : Bool) → ((y ≡ x) ⊎ In y xs)
          → (In y xs → In y (first_of_each_key key k (key x ∷ s) xs) ⊎ In y (spare (key x ∷ s) xs))
          →
          In y (cons_if b x (first_of_each_key key k (key x ∷ s) xs)) ⊎ In y (cons_if (not b) x (spare (key x ∷ s) xs))
      go true (inl e) f = inl (inl e)
      go false (inl e) f = inr (inl e)
      go true (inr m) f = elim (f m) [ inl a ↦ inl (inr a) | inr a ↦ inr a ]
      go false (inr m) f = elim (f m) [ inl a ↦ inl a | inr a ↦ inr (inr a) ]

  module _ {K : Type 0} (name : A → K) where
    pub distinct_spare : (s : List ℕ) (xs : List A) → Distinct name xs → Distinct name (spare s xs)
    unfolding spare
    distinct_spare s [] d = tt
    distinct_spare s (x ∷ xs) d = go (not (nat_lt (times (key x) s) k)) (distinct_spare (key x ∷ s) xs d.1)
      where
        go : (b : Bool) → Distinct name (spare (key x ∷ s) xs) → Distinct name (cons_if b x (spare (key x ∷ s) xs))
        go true r = ((λ y h. d.0 y (from_spare (key x ∷ s) xs y h)), r)
        go false r = r

    pub parts_differ : (s : List ℕ) (xs : List A) → Distinct name xs → (u v : A) → In u (first_of_each_key key k s xs)
        → In v (spare s xs) → name u ≡ name v → ⊥
    unfolding spare
    parts_differ s [] d u v a b e = absurd a
    parts_differ s (x ∷ xs) d u v a b e =
        go (nat_lt (times (key x) s) k) a b (λ m n. parts_differ (key x ∷ s) xs d.1 u v m n e)
      where
        go : (b : Bool) → In u (cons_if b x (first_of_each_key key k (key x ∷ s) xs))
            → In v (cons_if (not b) x (spare (key x ∷ s) xs)) →
            (In u (first_of_each_key key k (key x ∷ s) xs) → In v (spare (key x ∷ s) xs) → ⊥) → ⊥
        go true (inl c) n f = d.0 v (from_spare (key x ∷ s) xs v n) (sym (ap name c) ∙ e)
        go true (inr m) n f = f m n
        go false m (inl c) f = d.0 u (from_sift key k (key x ∷ s) xs u m) (sym (ap name c) ∙ sym e)
        go false m (inr n) f = f m n

    -- two of a key count twice
    pub two_times : (n : ℕ) (xs : List A) (x y : A) → In x xs → In y xs → key x ≡ n → key y ≡ n → (name x ≡ name y → ⊥)
        → 2 ≤ times n (map key xs)
    two_times n [] x y a b e f d = absurd a
    two_times n (z ∷ xs) x y (inl a) (inl b) e f d = absurd (d (ap name (a ∙ sym b)))
    two_times n (z ∷ xs) x y (inl a) (inr b) e f d =
        let s : times n (key z ∷ map key xs) ≡ suc (times n (map key xs)) =
        times_same n (key z) (map key xs) (sym e ∙ ap key a) in
        let t : 0 < times n (map key xs) = subst (λ v. 0 < times v (map key xs)) f (some_time key y xs b) in
        omega (arith, s, t)
    two_times n (z ∷ xs) x y (inr a) (inl b) e f d =
        let s : times n (key z ∷ map key xs) ≡ suc (times n (map key xs)) =
        times_same n (key z) (map key xs) (sym f ∙ ap key b) in
        let t : 0 < times n (map key xs) = subst (λ v. 0 < times v (map key xs)) e (some_time key x xs a) in
        omega (arith, s, t)
    two_times n (z ∷ xs) x y (inr a) (inr b) e f d =
        let s : 2 ≤ times n (map key xs) = two_times n xs x y a b e f d in
        let t : times n (map key xs) ≤ times n (key z ∷ map key xs) = times_grow n (key z) (map key xs) in
        omega (arith, s, t)

-- ---- how many

without : {A : Type 0} (x : A) (ys : List A) → In x ys → List A
without x [] h = []
without x (y ∷ ys) (inl e) = ys
without x (y ∷ ys) (inr m) = y ∷ without x ys m

without_one : {A : Type 0} (x : A) (ys : List A) (h : In x ys) → suc (length (without x ys h)) ≡ length ys
unfolding without
without_one x [] h = absurd h
without_one x (y ∷ ys) (inl e) = refl
without_one x (y ∷ ys) (inr m) = ap suc (without_one x ys m)

in_without : {A : Type 0} (x z : A) (ys : List A) (h : In x ys) → (z ≡ x → ⊥) → In z ys → In z (without x ys h)
unfolding without
in_without x z [] h n m = absurd h
in_without x z (y ∷ ys) (inl e) n (inl f) = absurd (n (f ∙ sym e))
in_without x z (y ∷ ys) (inl e) n (inr m) = m
in_without x z (y ∷ ys) (inr h) n (inl f) = inl f
in_without x z (y ∷ ys) (inr h) n (inr m) = inr (in_without x z ys h n m)

module _ {A K : Type 0} (key : A → ℕ) (name : A → K) where
  without_times : (n : ℕ) (x : A) (ys : List A) (h : In x ys) → key x ≡ n
      → suc (times n (map key (without x ys h))) ≡ times n (map key ys)
  unfolding without
  without_times n x [] h e = absurd h
  without_times n x (y ∷ ys) (inl d) e = sym (times_same n (key y) (map key ys) (sym e ∙ ap key d))
  without_times n x (y ∷ ys) (inr m) e = go (equal_or_not n (key y)) (without_times n x ys m e)
    where
      go : ((n ≡ key y) ⊎ (n ≡ key y → ⊥)) → suc (times n (map key (without x ys m))) ≡ times n (map key ys)
          → suc (times n (key y ∷ map key (without x ys m))) ≡ times n (key y ∷ map key ys)
      go (inl c) f = ap suc (times_same n (key y) (map key (without x ys m)) c) ∙ ap suc f
          ∙ sym (times_same n (key y) (map key ys) c)
      go (inr c) f = ap suc (times_other n (key y) (map key (without x ys m)) c) ∙ f
          ∙ sym (times_other n (key y) (map key ys) c)

  -- three of a key count three times
  pub three_times : (n : ℕ) (xs : List A) (x y z : A) → In x xs → In y xs → In z xs → key x ≡ n → key y ≡ n → key z ≡ n
      →
      (name x ≡ name y → ⊥) → (name y ≡ name z → ⊥) → (name x ≡ name z → ⊥) → 3 ≤ times n (map key xs)
  three_times n xs x y z a b c e f g k l m =
      let h : suc (times n (map key (without x xs a))) ≡ times n (map key xs) = without_times n x xs a e in
      let i : 2 ≤ times n (map key (without x xs a)) =
      two_times key 2 name n (without x xs a) y z (in_without x y xs a (λ d. k (ap name (sym d))) b)
      (in_without x z xs a (λ d. m (ap name (sym d))) c) f g l in
      omega (arith, h, i)

  -- of each key no more are left than may be
  pub sift_few : (k n : ℕ) (s : List ℕ) (xs : List A) → times n (map key (first_of_each_key key k s xs)) ≤ k - times n s
  sift_few k n s [] = omega arith
  sift_few k n s (x ∷ xs) = go (equal_or_not n (key x)) (nat_lt (times (key x) s) k) refl (sift_few k n (key x ∷ s) xs)
    where
      go : ((n ≡ key x) ⊎ (n ≡ key x → ⊥)) → (b : Bool) → nat_lt (times (key x) s) k ≡ b
          → times n (map key (first_of_each_key key k (key x ∷ s) xs)) ≤ k - times n (key x ∷ s) →
          times n (map key (cons_if b x (first_of_each_key key k (key x ∷ s) xs))) ≤ k - times n s
      go (inl c) true e l =
          let a : times n (key x ∷ map key (first_of_each_key key k (key x ∷ s) xs))
          ≡ suc (times n (map key (first_of_each_key key k (key x ∷ s) xs))) =
          times_same n (key x) (map key (first_of_each_key key k (key x ∷ s) xs)) c in
          let d : times n (key x ∷ s) ≡ suc (times n s) = times_same n (key x) s c in
          let f : times n s < k = subst (λ v. times v s < k) (sym c) (ltb-true (times (key x) s) k e) in
          omega (arith, a, d, f, l)
      go (inl c) false e l = let d : times n (key x ∷ s) ≡ suc (times n s) =
          times_same n (key x) s c in omega (arith, d, l)
      go (inr c) true e l =
          let a : times n (key x ∷ map key (first_of_each_key key k (key x ∷ s) xs))
          ≡ times n (map key (first_of_each_key key k (key x ∷ s) xs)) =
          times_other n (key x) (map key (first_of_each_key key k (key x ∷ s) xs)) c in
          let d : times n (key x ∷ s) ≡ times n s = times_other n (key x) s c in
          omega (arith, a, d, l)
      go (inr c) false e l = let d : times n (key x ∷ s) ≡ times n s = times_other n (key x) s c in omega (arith, d, l)

-- members of ys, each once, are no more than these
pub no_longer : {A K : Type 0} (name : A → K) (xs ys : List A) → Distinct name xs → ((x : A) → In x xs → In x ys)
    → length xs ≤ length ys
no_longer name [] ys d f = omega arith
no_longer name (x ∷ xs) ys d f =
    let h = f x (inl refl) in
    let a : length xs ≤ length (without x ys h) =
    no_longer name xs (without x ys h) d.1
    (λ z m. in_without x z ys h (λ e. d.0 z m (ap name (sym e))) (f z (inr m))) in
    let b : suc (length (without x ys h)) ≡ length ys = without_one x ys h in
    omega (arith, a, b)

-- ---- turned

distinct_reverse : (xs : List PartialReading) → Distinct trace xs → Distinct trace (reverse xs)
distinct_reverse [] d = tt
distinct_reverse (x ∷ xs) d =
    subst (Distinct trace) (sym (reverse-append (x ∷ []) xs))
    (distinct_append trace (reverse xs) (x ∷ []) (distinct_reverse xs d.1) ((λ y h. absurd h), tt) across)
  where
    across : (u v : PartialReading) → In u (reverse xs) → In v (x ∷ []) → trace u ≡ trace v → ⊥
    across u v m (inl e) f = d.0 u (from_reverse u xs m) (sym (f ∙ ap trace e))
    across u v m (inr h) f = absurd h

pub turning : Orders reversed_order
turning q ys d = record {
  only = λ x h. from_reverse x ys h;
  every = λ x h. in_reverse x ys h;
  once = distinct_reverse ys d;
}
