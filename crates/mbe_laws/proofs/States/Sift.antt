-- The first k of each key of a list.
use Rattle.std.proofs.Common.{ℕ, zero, suc, ◌+◌, ◌-◌, ◌≡◌, ◌⊎◌, ◌<◌, ◌≤◌, inl, inr, Bool, true, false, nat_eq, List, []}
use Rattle.std.proofs.Common.{◌∷◌, ◌++◌, map, length, refl, sym, ◌∙◌, ap, subst, arith, eqb-true}
use Rattle.std.specs.Prelude.{nat_lt}
use Rattle.std.specs.List.{flat_map}
use Rattle.std.proofs.lemmas.Bool.{eqb-false, ltb-true, ltb-false, lt-ltb, le-ltb}
use Rattle.mbe_semantics.specs.Matching.Lists.{In, Distinct, NoneAt}
use Rattle.mbe_laws.specs.Bounded.ClosureTwoEach.{plus_if, times, cons_if, first_of_each_key}

pub equal_or_not : (n m : ℕ) → (n ≡ m) ⊎ (n ≡ m → ⊥)
equal_or_not n m = go (nat_eq n m) refl
  where
    go : (b : Bool) → nat_eq n m ≡ b → (n ≡ m) ⊎ (n ≡ m → ⊥)
    go true e = inl (eqb-true n m e)
    go false e = inr (eqb-false n m e)

pub times_same : (n m : ℕ) (ms : List ℕ) → n ≡ m → times n (m ∷ ms) ≡ suc (times n ms)
times_same n m ms d = go (nat_eq n m) refl
  where
    go : (b : Bool) → nat_eq n m ≡ b → plus_if b (times n ms) ≡ suc (times n ms)
    go true e = refl
    go false e = absurd (eqb-false n m e d)

pub times_other : (n m : ℕ) (ms : List ℕ) → (n ≡ m → ⊥) → times n (m ∷ ms) ≡ times n ms
times_other n m ms d = go (nat_eq n m) refl
  where
    go : (b : Bool) → nat_eq n m ≡ b → plus_if b (times n ms) ≡ times n ms
    go true e = absurd (d (eqb-true n m e))
    go false e = refl

plus_grows : (b : Bool) (n : ℕ) → n ≤ plus_if b n
plus_grows true n = omega arith
plus_grows false n = omega arith

pub times_grow : (n m : ℕ) (ms : List ℕ) → times n ms ≤ times n (m ∷ ms)
times_grow n m ms = plus_grows (nat_eq n m) (times n ms)

pub plus_plus : (b : Bool) (n m : ℕ) → plus_if b n + m ≡ n + plus_if b m
plus_plus true n m = omega arith
plus_plus false n m = refl

plus_sum : (b : Bool) (n m : ℕ) → plus_if b (n + m) ≡ plus_if b n + m
plus_sum true n m = omega arith
plus_sum false n m = refl

pub times_append : (n : ℕ) (ms ks : List ℕ) → times n (ms ++ ks) ≡ times n ms + times n ks
times_append n [] ks = omega arith
times_append n (m ∷ ms) ks = ap (plus_if (nat_eq n m)) (times_append n ms ks)
    ∙ plus_sum (nat_eq n m) (times n ms) (times n ks)

module _ {A : Type 0} (key : A → ℕ) where
  -- the keys that are seen after a list
  unfoldable pub met : List ℕ → List A → List ℕ
  met s [] = s
  met s (x ∷ xs) = met (key x ∷ s) xs

  pub visited_append : (s : List ℕ) (xs ys : List A) → met s (xs ++ ys) ≡ met (met s xs) ys
  unfolding met
  visited_append s [] ys = refl
  visited_append s (x ∷ xs) ys = visited_append (key x ∷ s) xs ys

  pub times_visited : (n : ℕ) (s : List ℕ) (xs : List A) → times n (met s xs) ≡ times n (map key xs) + times n s
  unfolding met
  times_visited n s [] = omega arith
  times_visited n s (x ∷ xs) = times_visited n (key x ∷ s) xs
      ∙ sym (plus_plus (nat_eq n (key x)) (times n (map key xs)) (times n s))

  pub some_time : (x : A) (xs : List A) → In x xs → 0 < times (key x) (map key xs)
  some_time x [] h = absurd h
  some_time x (y ∷ xs) (inl e) =
      let d : times (key x) (map key (y ∷ xs)) ≡ suc (times (key x) (map key xs)) =
      times_same (key x) (key y) (map key xs) (ap key e) in omega arith
  some_time x (y ∷ xs) (inr h) =
      let d : 0 < times (key x) (map key xs) = some_time x xs h in
      let e : times (key x) (map key xs) ≤ times (key x) (map key (y ∷ xs)) =
      times_grow (key x) (key y) (map key xs) in omega arith

  -- whose key it is
  pub some_with : (n : ℕ) (xs : List A) → (times n (map key xs) ≡ 0) ⊎ ((x : A) × In x xs × (n ≡ key x))
  some_with n [] = inl refl
  some_with n (x ∷ xs) = go (equal_or_not n (key x)) (some_with n xs)
    where
      go : ((n ≡ key x) ⊎ (n ≡ key x → ⊥)) → ((times n (map key xs) ≡ 0) ⊎ ((y : A) × In y xs × (n ≡ key y)))
          → (times n (map key (x ∷ xs)) ≡ 0) ⊎ ((y : A) × In y (x ∷ xs) × (n ≡ key y))
      go (inl e) r = inr (x, inl refl, e)
      go (inr d) (inl e) = inl (times_other n (key x) (map key xs) d ∙ e)
      go (inr d) (inr r) = inr (r.0, inr r.1, r.2)

  module _ (k : ℕ) where
    -- equal, or both are enough
    abbrev pub Alike : ℕ → ℕ → Type 0
    Alike a c = (a ≡ c) ⊎ ((k ≤ a) × (k ≤ c))

    -- of each number as many were seen, or enough
    abbrev pub Like : List ℕ → List ℕ → Type 0
    Like s t = (n : ℕ) → Alike (times n s) (times n t)

    alike_plus : (b : Bool) (a c : ℕ) → Alike a c → Alike (plus_if b a) (plus_if b c)
    alike_plus true a c (inl e) = inl (ap suc e)
    alike_plus true a c (inr h) = inr (let g = h.0 in omega (arith, g), let g = h.1 in omega (arith, g))
    alike_plus false a c h = h

    pub like_cons : (s t : List ℕ) (m : ℕ) → Like s t → Like (m ∷ s) (m ∷ t)
    like_cons s t m h n = alike_plus (nat_eq n m) (times n s) (times n t) (h n)

    pub like_visited : (s t : List ℕ) (xs : List A) → Like s t → Like (met s xs) (met t xs)
    unfolding met
    like_visited s t [] h = h
    like_visited s t (x ∷ xs) h = like_visited (key x ∷ s) (key x ∷ t) xs (like_cons s t (key x) h)

    pub like_few : (s t : List ℕ) (n : ℕ) → Like s t → nat_lt (times n s) k ≡ nat_lt (times n t) k
    like_few s t n h = go (h n)
      where
        go : Alike (times n s) (times n t) → nat_lt (times n s) k ≡ nat_lt (times n t) k
        go (inl e) = ap (λ a. nat_lt a k) e
        go (inr g) = le-ltb (times n s) k g.0 ∙ sym (le-ltb (times n t) k g.1)

    pub like_trans : (s t u : List ℕ) → Like s t → Like t u → Like s u
    like_trans s t u h g n = go (h n) (g n)
      where
        go : Alike (times n s) (times n t) → Alike (times n t) (times n u) → Alike (times n s) (times n u)
        go (inl e) (inl f) = inl (e ∙ f)
        go (inl e) (inr f) = inr (subst (λ a. k ≤ a) (sym e) f.0, f.1)
        go (inr e) (inl f) = inr (e.0, subst (λ a. k ≤ a) f e.1)
        go (inr e) (inr f) = inr (e.0, f.1)

    pub sift_like : (s t : List ℕ) (xs : List A) → Like s t → first_of_each_key key k s xs
        ≡ first_of_each_key key k t xs
    sift_like s t [] h = refl
    sift_like s t (x ∷ xs) h =
        ap (λ b. cons_if b x (first_of_each_key key k (key x ∷ s) xs)) (like_few s t (key x) h)
        ∙ ap (cons_if (nat_lt (times (key x) t) k) x) (sift_like (key x ∷ s) (key x ∷ t) xs (like_cons s t (key x) h))

    cons_append : (b : Bool) (x : A) (xs ys : List A) → cons_if b x (xs ++ ys) ≡ cons_if b x xs ++ ys
    cons_append true x xs ys = refl
    cons_append false x xs ys = refl

    pub sift_append : (s : List ℕ) (xs ys : List A)
        → first_of_each_key key k s (xs ++ ys) ≡ first_of_each_key key k s xs ++ first_of_each_key key k (met s xs) ys
    unfolding met
    sift_append s [] ys = refl
    sift_append s (x ∷ xs) ys =
        ap (cons_if (nat_lt (times (key x) s) k) x) (sift_append (key x ∷ s) xs ys)
        ∙ cons_append (nat_lt (times (key x) s) k) x (first_of_each_key key k (key x ∷ s) xs)
        (first_of_each_key key k (met (key x ∷ s) xs) ys)

    -- enough of each were seen
    abbrev pub Full : List ℕ → List A → Type 0
    Full s xs = (x : A) → In x xs → k ≤ times (key x) s

    pub sift_full : (s : List ℕ) (xs : List A) → Full s xs → first_of_each_key key k s xs ≡ []
    sift_full s [] h = refl
    sift_full s (x ∷ xs) h =
        ap (λ b. cons_if b x (first_of_each_key key k (key x ∷ s) xs)) (le-ltb (times (key x) s) k (h x (inl refl)))
        ∙ sift_full (key x ∷ s) xs (λ y m. let a : k ≤ times (key y) s = h y (inr m) in let b : times (key y) s
        ≤ times (key y) (key x ∷ s) = times_grow (key y) (key x) s in omega arith)

    pub like_full : (s : List ℕ) (xs : List A) → Full s xs → Like s (met s xs)
    like_full s xs h n = go (some_with n xs)
      where
        e : times n (met s xs) ≡ times n (map key xs) + times n s
        e = times_visited n s xs

        go : ((times n (map key xs) ≡ 0) ⊎ ((x : A) × In x xs × (n ≡ key x))) → Alike (times n s) (times n (met s xs))
        go (inl z) = inl (let d = e in omega (arith, d, z))
        go (inr r) =
            let a : k ≤ times n s = subst (λ m. k ≤ times m s) (sym r.2) (h r.0 r.1) in
            let d = e in
            inr (a, omega (arith, a, d))

    from_cons_if : (b : Bool) (x y : A) (xs ys : List A) → (In y xs → In y ys) → In y (cons_if b x xs) → In y (x ∷ ys)
    from_cons_if true x y xs ys f (inl e) = inl e
    from_cons_if true x y xs ys f (inr m) = inr (f m)
    from_cons_if false x y xs ys f m = inr (f m)

    pub from_sift : (s : List ℕ) (xs : List A) (y : A) → In y (first_of_each_key key k s xs) → In y xs
    from_sift s [] y h = h
    from_sift s (x ∷ xs) y h = from_cons_if (nat_lt (times (key x) s) k) x y (first_of_each_key key k (key x ∷ s) xs) xs
        (from_sift (key x ∷ s) xs y) h

    distinct_cons_if : {K : Type 0} (name : A → K) (b : Bool) (x : A) (xs ys : List A) → ((y : A) → In y xs → In y ys)
        → NoneAt name (name x) ys → Distinct name xs → Distinct name (cons_if b x xs)
    distinct_cons_if name true x xs ys f n d = ((λ y h. n y (f y h)), d)
    distinct_cons_if name false x xs ys f n d = d

    pub distinct_sift : {K : Type 0} (name : A → K) (s : List ℕ) (xs : List A) → Distinct name xs
        → Distinct name (first_of_each_key key k s xs)
    distinct_sift name s [] d = tt
    distinct_sift name s (x ∷ xs) d =
        distinct_cons_if name (nat_lt (times (key x) s) k) x (first_of_each_key key k (key x ∷ s) xs) xs
        (from_sift (key x ∷ s) xs)
        d.0 (distinct_sift name (key x ∷ s) xs d.1)

    in_cons_if : (b : Bool) (x y : A) (xs : List A) → In y xs → In y (cons_if b x xs)
    in_cons_if true x y xs h = inr h
    in_cons_if false x y xs h = h

    kept : (s : List ℕ) (z : A) (xs : List A) → times (key z) s < k → In z (first_of_each_key key k s (z ∷ xs))
    kept s z xs l =
        subst (λ b. In z (cons_if b z (first_of_each_key key k (key z ∷ s) xs))) (sym (lt-ltb (times (key z) s) k l))
        (inl refl)

    -- some is left of the key
    abbrev pub Left : List ℕ → List A → ℕ → Type 0
    Left s xs n = (y : A) × In y (first_of_each_key key k s xs) × (key y ≡ n)

    left_after : (s : List ℕ) (z : A) (xs : List A) (n : ℕ) → Left (key z ∷ s) xs n → Left s (z ∷ xs) n
    left_after s z xs n r =
        (r.0, in_cons_if (nat_lt (times (key z) s) k) z r.0 (first_of_each_key key k (key z ∷ s) xs) r.1, r.2)

    -- of each key that isn't seen often enough, some is left
    pub one_left : (s : List ℕ) (xs : List A) (x : A) → In x xs → times (key x) s < k → Left s xs (key x)
    one_left s [] x h l = absurd h
    one_left s (z ∷ xs) x h l = go (equal_or_not (key x) (key z)) h (λ m c. one_left (key z ∷ s) xs x m c)
      where
        go : ((key x ≡ key z) ⊎ (key x ≡ key z → ⊥)) → In x (z ∷ xs)
            → (In x xs → times (key x) (key z ∷ s) < k → Left (key z ∷ s) xs (key x)) → Left s (z ∷ xs) (key x)
        go (inl e) m f = (z, kept s z xs (subst (λ n. times n s < k) e l), sym e)
        go (inr d) (inl e) f = absurd (d (ap key e))
        go (inr d) (inr m) f = left_after s z xs (key x)
            (f m (subst (λ n. n < k) (sym (times_other (key x) (key z) s d)) l))

    -- two are left of the key
    abbrev pub LeftTwo : {K : Type 0} → (A → K) → List ℕ → List A → ℕ → Type 0
    LeftTwo name s xs n = (y : A) × (z : A) × In y (first_of_each_key key k s xs) × In z (first_of_each_key key k s xs)
        × (key y ≡ n)
        × (key z ≡ n) × (name y ≡ name z → ⊥)

    left_two_after : {K : Type 0} (name : A → K) (s : List ℕ) (z : A) (xs : List A) (n : ℕ)
        → LeftTwo name (key z ∷ s) xs n → LeftTwo name s (z ∷ xs) n
    left_two_after name s z xs n r = (
      r.0,
      r.1,
      in_cons_if (nat_lt (times (key z) s) k) z r.0 (first_of_each_key key k (key z ∷ s) xs) r.2,
      in_cons_if (nat_lt (times (key z) s) k) z r.1 (first_of_each_key key k (key z ∷ s) xs) r.3,
      r.4,
      r.5,
      r.6,
    )

    -- where two of a key come, two are left
    pub two_left : {K : Type 0} (name : A → K) (s : List ℕ) (xs : List A) (x y : A) → In x xs → In y xs → key x ≡ key y
        → (x ≡ y → ⊥) → Distinct name xs → suc (times (key x) s) < k → LeftTwo name s xs (key x)
    two_left name s [] x y a b e n d l = absurd a
    two_left {K} name s (z ∷ xs) x y a b e n d l =
        go (equal_or_not (key x) (key z)) a b (λ u v c. two_left name (key z ∷ s) xs x y u v e n d.1 c)
      where
        first : key x ≡ key z → (v : A) → In v xs → key v ≡ key z → LeftTwo name s (z ∷ xs) (key x)
        first f v m g =
            let c : times (key z) s < k = subst (λ w. times w s < k) f (omega arith) in
            let h : times (key v) (key z ∷ s) < k =
            subst (λ w. w < k) (sym (times_same (key v) (key z) s g))
            (subst (λ w. suc (times w s) < k) (f ∙ sym g) l) in
            let r : Left (key z ∷ s) xs (key v) = one_left (key z ∷ s) xs v m h in (
              z,
              r.0,
              kept s z xs c,
              in_cons_if (nat_lt (times (key z) s) k) z r.0 (first_of_each_key key k (key z ∷ s) xs) r.1,
              sym f,
              r.2 ∙ g ∙ sym f,
              d.0 r.0 (from_sift (key z ∷ s) xs r.0 r.1),
            )

        go : ((key x ≡ key z) ⊎ (key x ≡ key z → ⊥)) → In x (z ∷ xs) → In y (z ∷ xs)
            → (In x xs → In y xs → suc (times (key x) (key z ∷ s)) < k → LeftTwo name (key z ∷ s) xs (key x))
            → LeftTwo name s (z ∷ xs) (key x)
        go (inl f) (inl u) (inl v) r = absurd (n (u ∙ sym v))
        go (inl f) (inl u) (inr v) r = first f y v (sym e ∙ f)
        go (inl f) (inr u) v r = first f x u f
        go (inr f) (inl u) v r = absurd (f (ap key u))
        go (inr f) (inr u) (inl v) r = absurd (f (e ∙ ap key v))
        go (inr f) (inr u) (inr v) r = left_two_after name s z xs (key x)
            (r u v (subst (λ w. suc w < k) (sym (times_other (key x) (key z) s f)) l))

    -- ---- what comes of a list that was sifted

    module _ (f : A → List A) (Good : A → Type 0)
        (alike : (x y : A) → Good x → Good y → key x ≡ key y → map key (f x) ≡ map key (f y)) where
      -- what was seen before, and what came of it
      abbrev pub Link : List ℕ → List ℕ → Type 0
      Link s b = (x : A) → Good x → (z : A) → In z (f x) → times (key x) s ≤ times (key z) b

      link_next : (s b : List ℕ) (x : A) → Good x → Link s b → Link (key x ∷ s) (met b (f x))
      link_next s b x g h y g' z m = go (equal_or_not (key y) (key x))
        where
          e : times (key z) (met b (f x)) ≡ times (key z) (map key (f x)) + times (key z) b
          e = times_visited (key z) b (f x)

          l : times (key y) s ≤ times (key z) b
          l = h y g' z m

          go : ((key y ≡ key x) ⊎ (key y ≡ key x → ⊥)) → times (key y) (key x ∷ s) ≤ times (key z) (met b (f x))
          go (inl c) =
              let a : times (key y) (key x ∷ s) ≡ suc (times (key y) s) = times_same (key y) (key x) s c in
              let d : 0 < times (key z) (map key (f x)) =
              subst (λ v. 0 < times (key z) v) (alike y x g' g c) (some_time z (f y) m) in
              let e' = e in
              let l' = l in
              omega (arith, a, d, e', l')
          go (inr c) =
              let a : times (key y) (key x ∷ s) ≡ times (key y) s = times_other (key y) (key x) s c in
              let e' = e in
              let l' = l in
              omega (arith, a, e', l')

      pub sift_flat : (xs : List A) (s a b : List ℕ) → ((x : A) → In x xs → Good x) → Like a b → Link s b →
          first_of_each_key key k a (flat_map f (first_of_each_key key k s xs))
          ≡ first_of_each_key key k b (flat_map f xs)
      sift_flat [] s a b g h l = refl
      sift_flat (x ∷ xs) s a b g h l = go (nat_lt (times (key x) s) k) refl
          (λ c h'. sift_flat xs (key x ∷ s) c (met b (f x)) (λ y m. g y (inr m)) h'
          (link_next s b x (g x (inl refl)) l))
        where
          go : (t : Bool) → nat_lt (times (key x) s) k ≡ t →
              ((c : List ℕ) → Like c (met b (f x))
              → first_of_each_key key k c (flat_map f (first_of_each_key key k (key x ∷ s) xs))
              ≡ first_of_each_key key k (met b (f x)) (flat_map f xs)) →
              first_of_each_key key k a (flat_map f (cons_if t x (first_of_each_key key k (key x ∷ s) xs)))
              ≡ first_of_each_key key k b (f x ++ flat_map f xs)
          go true e r =
              sift_append a (f x) (flat_map f (first_of_each_key key k (key x ∷ s) xs))
              ∙ ap (λ v. v ++ first_of_each_key key k (met a (f x))
              (flat_map f (first_of_each_key key k (key x ∷ s) xs))) (sift_like a b (f x) h)
              ∙ ap (λ v. first_of_each_key key k b (f x) ++ v) (r (met a (f x)) (like_visited a b (f x) h))
              ∙ sym (sift_append b (f x) (flat_map f xs))
          go false e r =
              let full : Full b (f x) = λ z m. let c : k ≤ times (key x) s =
              ltb-false (times (key x) s) k e in let d : times (key x) s ≤ times (key z) b =
              l x (g x (inl refl)) z m in omega (arith, c, d) in
              r a (like_trans a b (met b (f x)) h (like_full b (f x) full))
              ∙ sym (sift_append b (f x) (flat_map f xs)
              ∙ ap (λ v. v ++ first_of_each_key key k (met b (f x)) (flat_map f xs)) (sift_full b (f x) full))

      -- what comes of the first of each key is enough
      pub sifted_first : (xs : List A) → ((x : A) → In x xs → Good x)
          → first_of_each_key key k [] (flat_map f (first_of_each_key key k [] xs))
          ≡ first_of_each_key key k [] (flat_map f xs)
      sifted_first xs g = sift_flat xs [] [] [] g (λ n. inl refl) (λ x h z m. omega arith)

    -- ---- how many are left

    -- how many may still be left, of so many keys
    unfoldable pub room : ℕ → List ℕ → ℕ
    room zero s = 0
    room (suc n) s = (k - times (suc n) s) + room n s

    Within : ℕ → ℕ → Type 0
    Within n d = (0 < d) × (d ≤ n)

    room_falls : (n d : ℕ) (s : List ℕ) → room n (d ∷ s) ≤ room n s
    unfolding room
    room_falls zero d s = omega arith
    room_falls (suc n) d s =
        let a : times (suc n) s ≤ times (suc n) (d ∷ s) = times_grow (suc n) d s in
        let b : room n (d ∷ s) ≤ room n s = room_falls n d s in
        omega arith

    pub room_taken : (n d : ℕ) (s : List ℕ) → 0 < d → d ≤ n → times d s < k → room n (d ∷ s) < room n s
    unfolding room
    room_taken zero d s p q l = absurd (omega arith)
    room_taken (suc n) d s p q l = go (equal_or_not (suc n) d) (λ m. room_taken n d s p m l)
      where
        go : ((suc n ≡ d) ⊎ (suc n ≡ d → ⊥)) → (d ≤ n → room n (d ∷ s) < room n s)
            → (k - times (suc n) (d ∷ s)) + room n (d ∷ s) < (k - times (suc n) s) + room n s
        go (inl e) r =
            let a : times (suc n) (d ∷ s) ≡ suc (times (suc n) s) = times_same (suc n) d s e in
            let b : room n (d ∷ s) ≤ room n s = room_falls n d s in
            let c : times (suc n) s < k = subst (λ w. times w s < k) (sym e) l in
            omega (arith, a, b, c)
        go (inr e) r =
            let a : times (suc n) (d ∷ s) ≡ times (suc n) s = times_other (suc n) d s e in
            let b : room n (d ∷ s) < room n s = r (grind (arith, e, q)) in
            omega (arith, a, b)

    pub sift_short : (n : ℕ) (s : List ℕ) (xs : List A) → ((x : A) → In x xs → (0 < key x) × (key x ≤ n))
        → length (first_of_each_key key k s xs) ≤ room n s
    sift_short n s [] h = omega arith
    sift_short n s (x ∷ xs) h = go (nat_lt (times (key x) s) k) refl (sift_short n (key x ∷ s) xs (λ y m. h y (inr m)))
      where
        go : (b : Bool) → nat_lt (times (key x) s) k ≡ b
            → length (first_of_each_key key k (key x ∷ s) xs) ≤ room n (key x ∷ s)
            → length (cons_if b x (first_of_each_key key k (key x ∷ s) xs)) ≤ room n s
        go true e l =
            let w : (0 < key x) × (key x ≤ n) = h x (inl refl) in
            let a : room n (key x ∷ s) < room n s = room_taken n (key x) s w.0 w.1 (ltb-true (times (key x) s) k e) in
            omega (arith, a, l)
        go false e l = let a : room n (key x ∷ s) ≤ room n s = room_falls n (key x) s in omega (arith, a, l)
