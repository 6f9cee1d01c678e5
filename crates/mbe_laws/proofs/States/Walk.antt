-- A walk by a stack that drops what was seen often enough gives the first k of each key of all that is to be found.
use Rattle.std.proofs.Common.{ℕ, zero, suc, ◌+◌, ◌≡◌, ◌⊎◌, ◌<◌, ◌≤◌, inl, inr, Bool, true, false, List, [], ◌∷◌, ◌++◌}
use Rattle.std.proofs.Common.{map, length, refl, sym, ◌∙◌, ap, subst, arith}
use Rattle.std.specs.Prelude.{nat_lt}
use Rattle.std.specs.List.{flat_map}
use Rattle.std.proofs.lemmas.Bool.{ltb-true, ltb-false}
use Rattle.std.proofs.lemmas.List.{map-append}
use Rattle.std.proofs.lemmas.Grind.{flat_map-append}
use Rattle.mbe_semantics.specs.Matching.Lists.{In}
use Rattle.mbe_laws.proofs.Matching.Forest.{in_either, from_flat, in_flat}
use Rattle.mbe_laws.specs.Bounded.ClosureTwoEach.{times, cons_if, append_if, first_of_each_key, walk}
use Rattle.mbe_laws.proofs.States.Sift.{equal_or_not, times_same, times_other, times_grow, times_append, met}
use Rattle.mbe_laws.proofs.States.Sift.{visited_append, times_visited, some_time, some_with, Like, like_cons, like_few}
use Rattle.mbe_laws.proofs.States.Sift.{like_trans, Full, sift_append, sift_full, like_full, room, room_taken}

pub len_append : {A : Type 0} (xs ys : List A) → length (xs ++ ys) ≡ length xs + length ys
len_append [] ys = omega arith
len_append (x ∷ xs) ys = let e : length (xs ++ ys) ≡ length xs + length ys = len_append xs ys in omega arith

len_map : {A B : Type 0} (f : A → B) (xs : List A) → length (map f xs) ≡ length xs
len_map f [] = refl
len_map f (x ∷ xs) = ap suc (len_map f xs)

-- c for each
unfoldable pub steps_for : ℕ → ℕ → ℕ
steps_for c zero = 0
steps_for c (suc r) = c + steps_for c r

steps_grow : (c r t : ℕ) → r ≤ t → steps_for c r ≤ steps_for c t
unfolding steps_for
steps_grow c zero t l = omega arith
steps_grow c (suc r) zero l = absurd (omega arith)
steps_grow c (suc r) (suc t) l = let h : steps_for c r ≤ steps_for c t =
    steps_grow c r t (omega arith) in omega (arith, h)

steps_fall : (c r t : ℕ) → r < t → c + steps_for c r ≤ steps_for c t
unfolding steps_for
steps_fall c r zero l = absurd (omega arith)
steps_fall c r (suc t) l = let h : steps_for c r ≤ steps_for c t = steps_grow c r t (omega arith) in omega (arith, h)

module _ {A : Type 0} (key : A → ℕ) (kids : A → List A) (T : A → List A) (Good : A → Type 0)
    (step : (x : A) → Good x → T x ≡ x ∷ flat_map T (kids x))
    (good : (x y : A) → Good x → In y (kids x) → Good y)
    (alike : (x y : A) → Good x → Good y → key x ≡ key y → map key (T x) ≡ map key (T y)) where
  part_short : (x : A) (xs : List A) → In x xs → length (T x) ≤ length (flat_map T xs)
  part_short x [] h = absurd h
  part_short x (y ∷ xs) (inl e) =
      let a : length (T y ++ flat_map T xs) ≡ length (T y) + length (flat_map T xs) =
      len_append (T y) (flat_map T xs) in
      let b : length (T x) ≡ length (T y) = ap (λ v. length (T v)) e in
      omega arith
  part_short x (y ∷ xs) (inr h) =
      let a : length (T y ++ flat_map T xs) ≡ length (T y) + length (flat_map T xs) =
      len_append (T y) (flat_map T xs) in
      let b : length (T x) ≤ length (flat_map T xs) = part_short x xs h in
      omega arith

  kid_short : (x y : A) → Good x → In y (kids x) → length (T y) < length (T x)
  kid_short x y g h =
      let a : length (T y) ≤ length (flat_map T (kids x)) = part_short y (kids x) h in
      let b : length (T x) ≡ suc (length (flat_map T (kids x))) = ap length (step x g) in
      omega arith

  -- all below are good, and smaller
  below : (n : ℕ) (x : A) → length (T x) ≤ n → Good x → (y : A) → In y (T x) → Good y × (length (T y) ≤ length (T x))
  below zero x l g y h = let b : length (T x) ≡ suc (length (flat_map T (kids x))) =
      ap length (step x g) in absurd (omega (arith, l, b))
  below (suc n) x l g y h = go (subst (In y) (step x g) h)
      (λ c m i. below n c (let s : length (T c) < length (T x) = kid_short x c g m in omega (arith, s, l))
      (good x c g m) y i)
    where
      go : ((y ≡ x) ⊎ In y (flat_map T (kids x)))
          → ((c : A) → In c (kids x) → In y (T c) → Good y × (length (T y) ≤ length (T c)))
          → Good y × (length (T y) ≤ length (T x))
      go (inl e) f = (
        subst Good (sym e) g,
        let d : length (T y)
            ≡ length (T x) = ap (λ v. length (T v)) e in omega (arith, d),
      )
      go (inr m) f =
          let r : (c : A) × In c (kids x) × In y (T c) = from_flat T y (kids x) m in
          let v : Good y × (length (T y) ≤ length (T r.0)) = f r.0 r.1 r.2 in
          let s : length (T r.0) < length (T x) = kid_short x r.0 g r.1 in
          let t = v.1 in
          (v.0, omega (arith, s, t))

  in_good : (x y : A) → Good x → In y (T x) → Good y
  in_good x y g h = (below (length (T x)) x (omega arith) g y h).0

  -- all but the first are smaller, so have another key
  deeper : (x y : A) → Good x → In y (flat_map T (kids x)) → key y ≡ key x → ⊥
  deeper x y g h e =
      let r : (c : A) × In c (kids x) × In y (T c) = from_flat T y (kids x) h in
      let v : Good y × (length (T y) ≤ length (T r.0)) =
      below (length (T r.0)) r.0 (omega arith) (good x r.0 g r.1) y r.2 in
      let s : length (T r.0) < length (T x) = kid_short x r.0 g r.1 in
      let t = v.1 in
      let d : length (T y) ≡ length (T x) =
      sym (len_map key (T y)) ∙ ap length (alike y x v.0 g e) ∙ len_map key (T x) in
      omega (arith, s, t, d)

  -- what is below y comes as often as y does
  abbrev Covers : A → List A → Type 0
  Covers y xs = (z : A) → In z (T y) → times (key y) (map key xs) ≤ times (key z) (map key xs)

  covers_flat : (y : A) (xs : List A) → ((x : A) → In x xs → Covers y (T x)) → Covers y (flat_map T xs)
  covers_flat y [] h z m = omega arith
  covers_flat y (x ∷ xs) h z m =
      let a : times (key y) (map key (T x ++ flat_map T xs))
      ≡ times (key y) (map key (T x)) + times (key y) (map key (flat_map T xs)) =
      ap (times (key y)) (map-append key (T x) (flat_map T xs))
      ∙ times_append (key y) (map key (T x)) (map key (flat_map T xs)) in
      let b : times (key z) (map key (T x ++ flat_map T xs))
      ≡ times (key z) (map key (T x)) + times (key z) (map key (flat_map T xs)) =
      ap (times (key z)) (map-append key (T x) (flat_map T xs))
      ∙ times_append (key z) (map key (T x)) (map key (flat_map T xs)) in
      let c : times (key y) (map key (T x)) ≤ times (key z) (map key (T x)) = h x (inl refl) z m in
      let d : times (key y) (map key (flat_map T xs)) ≤ times (key z) (map key (flat_map T xs)) =
      covers_flat y xs (λ v i. h v (inr i)) z m in
      omega (arith, a, b, c, d)

  covers : (n : ℕ) (x y : A) → length (T x) ≤ n → Good x → Good y → Covers y (T x)
  covers zero x y l g g' z m = let b : length (T x) ≡ suc (length (flat_map T (kids x))) =
      ap length (step x g) in absurd (omega (arith, l, b))
  covers (suc n) x y l g g' z m = go (equal_or_not (key y) (key x))
      (covers_flat y (kids x) (λ c i. covers n c y
      (let s : length (T c) < length (T x) = kid_short x c g i in omega (arith, s, l)) (good x c g i) g') z m)
    where
      first : (v : A) → times (key v) (map key (T x)) ≡ times (key v) (key x ∷ map key (flat_map T (kids x)))
      first v = ap (λ w. times (key v) (map key w)) (step x g)

      go : ((key y ≡ key x) ⊎ (key y ≡ key x → ⊥))
          → times (key y) (map key (flat_map T (kids x))) ≤ times (key z) (map key (flat_map T (kids x)))
          → times (key y) (map key (T x)) ≤ times (key z) (map key (T x))
      go (inl e) i =
          let a : times (key y) (map key (T x)) ≡ suc (times (key y) (map key (flat_map T (kids x)))) =
          first y ∙ times_same (key y) (key x) (map key (flat_map T (kids x))) e in
          let b : times (key y) (map key (flat_map T (kids x))) ≡ 0 =
          none (some_with key (key y) (flat_map T (kids x))) e in
          let c : 0 < times (key z) (map key (T x)) =
          subst (λ w. 0 < times (key z) w) (alike y x g' g e) (some_time key z (T y) m) in
          omega (arith, a, b, c)
        where
          none : ((times (key y) (map key (flat_map T (kids x))) ≡ 0)
              ⊎ ((v : A) × In v (flat_map T (kids x)) × (key y ≡ key v))) → key y ≡ key x
              → times (key y) (map key (flat_map T (kids x))) ≡ 0
          none (inl z) e = z
          none (inr r) e = absurd (deeper x r.0 g r.1 (sym r.2 ∙ e))
      go (inr d) i =
          let a : times (key y) (map key (T x)) ≡ times (key y) (map key (flat_map T (kids x))) =
          first y ∙ times_other (key y) (key x) (map key (flat_map T (kids x))) d in
          let b : times (key z) (map key (flat_map T (kids x)))
          ≤ times (key z) (key x ∷ map key (flat_map T (kids x))) =
          times_grow (key z) (key x) (map key (flat_map T (kids x))) in
          let c : times (key z) (map key (T x)) ≡ times (key z) (key x ∷ map key (flat_map T (kids x))) = first z in
          omega (arith, a, b, c, i)

  -- where a part of x was seen, all below that part was seen as often
  abbrev Even : List ℕ → A → Type 0
  Even s x = (y : A) → In y (T x) → (z : A) → In z (T y) → times (key y) s ≤ times (key z) s

  even_visited : (s : List ℕ) (x c : A) → Good x → Good c → Even s x → Even (met key s (T c)) x
  even_visited s x c g g' h y m z i =
      let a : times (key y) (met key s (T c)) ≡ times (key y) (map key (T c)) + times (key y) s =
      times_visited key (key y) s (T c) in
      let b : times (key z) (met key s (T c)) ≡ times (key z) (map key (T c)) + times (key z) s =
      times_visited key (key z) s (T c) in
      let d : times (key y) s ≤ times (key z) s = h y m z i in
      let e : times (key y) (map key (T c)) ≤ times (key z) (map key (T c)) =
      covers (length (T c)) c y (omega arith) g' (in_good x y g m) z i in
      omega (arith, a, b, d, e)

  even_kid : (s : List ℕ) (x c : A) → Good x → In c (kids x) → Even s x → Even (key x ∷ s) c
  even_kid s x c g i h y m z j =
      let w : In y (flat_map T (kids x)) = in_flat T y c (kids x) i m in
      let a : times (key y) (key x ∷ s) ≡ times (key y) s = times_other (key y) (key x) s (λ e. deeper x y g w e) in
      let b : times (key y) s ≤ times (key z) s = h y (subst (In y) (sym (step x g)) (inr w)) z j in
      let d : times (key z) s ≤ times (key z) (key x ∷ s) = times_grow (key z) (key x) s in
      omega (arith, a, b, d)

  -- so it is for each of the stack, once those before it are done
  pub Ready : List ℕ → List A → Type 0
  Ready s [] = Unit {0}
  Ready s (x ∷ xs) = Even s x × Ready (met key s (T x)) xs

  pub ready_all : (s : List ℕ) (xs : List A) → ((x : A) → In x xs → Good x) → ((x : A) → In x xs → Even s x)
      → Ready s xs
  unfolding Ready
  ready_all s [] g h = tt
  ready_all s (x ∷ xs) g h = (
    h x (inl refl),
    ready_all (met key s (T x)) xs (λ y m. g y (inr m))
        (λ y m. even_visited s y x (g y (inr m)) (g x (inl refl)) (h y (inr m))),
  )

  ready_append : (s : List ℕ) (xs ys : List A) → Ready s xs → Ready (met key s (flat_map T xs)) ys → Ready s (xs ++ ys)
  unfolding Ready met
  ready_append s [] ys h g = g
  ready_append s (x ∷ xs) ys h g = (
    h.0,
    ready_append (met key s (T x)) xs ys h.1
        (subst (λ t. Ready t ys) (visited_append key s (T x) (flat_map T xs)) g),
  )

  module _ (k : ℕ) (d : ℕ) (c : ℕ) (few : (x : A) → length (kids x) ≤ c)
      (bounded : (x : A) → Good x → (0 < key x) × (key x ≤ d)) where
    pub walk-first : (n : ℕ) (w s : List ℕ) (xs : List A) → ((x : A) → In x xs → Good x) → Like key k w s → Ready s xs
        → length xs + steps_for c (room key k d w) < n →
        walk kids key k n w xs ≡ first_of_each_key key k s (flat_map T xs)
    unfolding walk Ready met
    walk-first zero w s xs g h r l = absurd (omega arith)
    walk-first (suc n) w s [] g h r l = refl
    walk-first (suc n) w s (x ∷ xs) g h r l = go (nat_lt (times (key x) w) k) refl
        (λ w' s' ys a b f e. walk-first n w' s' ys a b f e)
      where
        gx : Good x
        gx = g x (inl refl)

        go : (b : Bool) → nat_lt (times (key x) w) k ≡ b →
            ((w' s' : List ℕ) (ys : List A) → ((y : A) → In y ys → Good y) → Like key k w' s' → Ready s' ys
            → length ys + steps_for c (room key k d w') < n
            → walk kids key k n w' ys ≡ first_of_each_key key k s' (flat_map T ys)) →
            cons_if b x (walk kids key k n (cons_if b (key x) w) (append_if b (kids x) xs))
            ≡ first_of_each_key key k s (T x ++ flat_map T xs)
        go true e ih =
            ap (λ v. x ∷ v) (ih (key x ∷ w) (key x ∷ s) (kids x ++ xs) goods (like_cons key k w s (key x) h) ready
            short)
            ∙ ap (λ b. cons_if b x (first_of_each_key key k (key x ∷ s) (flat_map T (kids x ++ xs))))
            (sym e ∙ like_few key k w s (key x) h)
            ∙ ap (λ v. first_of_each_key key k s (x ∷ v)) (flat_map-append T (kids x) xs)
            ∙ ap (λ v. first_of_each_key key k s (v ++ flat_map T xs)) (sym (step x gx))
          where
            goods : (y : A) → In y (kids x ++ xs) → Good y
            goods y m = elim (in_either y (kids x) xs m) [ inl i ↦ good x y gx i | inr i ↦ g y (inr i) ]

            kids_ready : Ready (key x ∷ s) (kids x)
            kids_ready = ready_all (key x ∷ s) (kids x) (λ y i. good x y gx i) (λ y i. even_kid s x y gx i r.0)

            ready : Ready (key x ∷ s) (kids x ++ xs)
            ready = ready_append (key x ∷ s) (kids x) xs kids_ready
                (subst (λ v. Ready (met key s v) xs) (step x gx) r.1)

            short : length (kids x ++ xs) + steps_for c (room key k d (key x ∷ w)) < n
            short =
                let a : length (kids x ++ xs) ≡ length (kids x) + length xs = len_append (kids x) xs in
                let b : length (kids x) ≤ c = few x in
                let v : (0 < key x) × (key x ≤ d) = bounded x gx in
                let m : room key k d (key x ∷ w) < room key k d w =
                room_taken key k d (key x) w v.0 v.1 (ltb-true (times (key x) w) k e) in
                let f : c + steps_for c (room key k d (key x ∷ w)) ≤ steps_for c (room key k d w) =
                steps_fall c (room key k d (key x ∷ w)) (room key k d w) m in
                let l' = l in
                omega (arith, a, b, f, l')
        go false e ih =
            ih w (met key s (T x)) xs (λ y m. g y (inr m))
            (like_trans key k w s (met key s (T x)) h (like_full key k s (T x) full)) r.1
            (let l' = l in omega (arith, l'))
            ∙ sym (sift_append key k s (T x) (flat_map T xs)
            ∙ ap (λ v. v ++ first_of_each_key key k (met key s (T x)) (flat_map T xs)) (sift_full key k s (T x) full))
          where
            full : Full key k s (T x)
            full z m =
                let a : k ≤ times (key x) s = ltb-false (times (key x) s) k (sym (like_few key k w s (key x) h) ∙ e) in
                let b : times (key x) s ≤ times (key z) s = r.0 x (subst (In x) (sym (step x gx)) (inl refl)) z m in
                omega (arith, a, b)

    -- from nothing seen
    pub walk-sifts : (n : ℕ) (xs : List A) → ((x : A) → In x xs → Good x)
        → length xs + steps_for c (room key k d []) < n → walk kids key k n [] xs
        ≡ first_of_each_key key k [] (flat_map T xs)
    walk-sifts n xs g l = walk-first n [] [] xs g (λ m. inl refl) (ready_all [] xs g (λ x m y i z j. omega arith)) l
