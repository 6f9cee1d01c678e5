-- Where no dot has three beginnings, nothing is dropped.
use Rattle.std.proofs.Common.{ℕ, suc, ◌+◌, ◌≡◌, ◌⊎◌, ◌<◌, ◌≤◌, inl, inr, Bool, true, false, List, [], ◌∷◌, map, refl}
use Rattle.std.proofs.Common.{sym, ◌∙◌, ap, subst, arith, ◌-◌, ◌++◌, reverse, Option, Some, None, append-nil}
use Rattle.std.proofs.lemmas.List.{reverse-append}
use Rattle.std.specs.Prelude.{nat_lt}
use Rattle.std.proofs.lemmas.Bool.{lt-ltb}
use Rattle.mbe_tt.specs.Trees.Tree.{flat_len}
use Rattle.mbe_semantics.specs.Syntax.Op.{Ops}
use Rattle.mbe_semantics.specs.Readings.Input.{Input, input_of}
use Rattle.mbe_semantics.specs.Readings.Reading.{PartialReading, IsPartialReading, EndsAt}
use Rattle.mbe_semantics.specs.Readings.Steps.{move}
use Rattle.mbe_semantics.specs.Matching.Lists.{In, Distinct}
use Rattle.mbe_semantics.specs.Matching.Trace.{trace, fresh}
use Rattle.mbe_semantics.specs.Syntax.Nullable.{Checked}
use Rattle.mbe_semantics.specs.Laws.Lawful.{Lawful}
use Rattle.mbe_semantics.specs.Matching.Closure.{closure, moves_of, targets}
use Rattle.mbe_laws.proofs.Matching.Law.{Inv, held-sound, held-once, held-all}
use Rattle.mbe_laws.proofs.Matching.Advance.{inv-start, inv-next, next_fresh, some_width}
use Rattle.mbe_semantics.proofs.InputLemmas.{lawful_input}
use Rattle.mbe_semantics.specs.Matching.States.{state_count, state_number}
use Rattle.mbe_laws.specs.Bounded.States.{state_of}
use Rattle.mbe_laws.specs.Bounded.ClosureTwoEach.{times, cons_if, first_of_each_key, first_two_each, closure_two_each}
use Rattle.mbe_laws.specs.Reports.Ends.{first_if, first_that, last_that}
use Rattle.mbe_laws.specs.Orders.Order.{Reordered, Order, Orders, ReachesInOrder, order_start, order_next}
use Rattle.mbe_laws.specs.Orders.Order.{ReachesUnbounded, whole_start, whole_next, AtMostTwo, AtMostTwoThat}
use Rattle.mbe_laws.specs.Orders.OrderLaws.{DropsLaw}
use Rattle.mbe_laws.proofs.States.Sift.{equal_or_not, times_same, times_other, plus_plus, some_with}
use Rattle.mbe_laws.proofs.States.States.{same-dot, same-number}
use Rattle.mbe_laws.proofs.Orders.Spare.{three_times, sift_few}
use Rattle.mbe_laws.proofs.Reports.EndLemmas.{first_sift}
use Rattle.mbe_laws.proofs.Run.BoundedRun.{held-is}
use Rattle.mbe_laws.proofs.Orders.OrderLemmas.{goes_any, comes-any, ordered-any, in_order}

module _ {A : Type 0} (key : A → ℕ) where
  -- where none comes too often, all stay
  sift_all : (k : ℕ) (s : List ℕ) (xs : List A) → ((x : A) → In x xs → times (key x) s + times (key x) (map key xs) ≤ k)
      → first_of_each_key key k s xs ≡ xs
  sift_all k s [] h = refl
  sift_all k s (x ∷ xs) h =
      ap (λ b. cons_if b x (first_of_each_key key k (key x ∷ s) xs)) (lt-ltb (times (key x) s) k few)
      ∙ ap (λ l. x ∷ l) (sift_all k (key x ∷ s) xs
      (λ y m. subst (λ n. n ≤ k) (sym (plus_plus (nat_is (key y) (key x)) (times (key y) s)
      (times (key y) (map key xs)))) (h y (inr m))))
    where
      nat_is : ℕ → ℕ → Bool
      nat_is n m = Rattle.std.specs.Prelude.nat_eq n m

      few : times (key x) s < k
      few =
          let a : times (key x) s + times (key x) (key x ∷ map key xs) ≤ k = h x (inl refl) in
          let b : times (key x) (key x ∷ map key xs) ≡ suc (times (key x) (map key xs)) =
          times_same (key x) (key x) (map key xs) refl in
          omega (arith, a, b)

  abbrev One : ℕ → List A → Type 0
  One n xs = (x : A) × In x xs × (n ≡ key x)

  one : (n : ℕ) (xs : List A) → 0 < times n (map key xs) → One n xs
  one n xs l = go (some_with key n xs)
    where
      go : ((times n (map key xs) ≡ 0) ⊎ ((x : A) × In x xs × (n ≡ key x))) → (x : A) × In x xs × (n ≡ key x)
      go (inl e) = absurd (omega (arith, l, e))
      go (inr r) = r

  module _ {K : Type 0} (name : A → K) where
    abbrev Two : ℕ → List A → Type 0
    Two n xs = (x : A) × (y : A) × In x xs × In y xs × (n ≡ key x) × (n ≡ key y) × (name x ≡ name y → ⊥)

    two : (n : ℕ) (xs : List A) → Distinct name xs → 1 < times n (map key xs) → Two n xs
    two n [] d l = absurd (omega (arith, l))
    two n (x ∷ xs) d l = go (equal_or_not n (key x)) (λ m. two n xs d.1 m)
      where
        go : ((n ≡ key x) ⊎ (n ≡ key x → ⊥)) → (1 < times n (map key xs) → Two n xs) → Two n (x ∷ xs)
        go (inl e) f =
            let a : times n (key x ∷ map key xs) ≡ suc (times n (map key xs)) = times_same n (key x) (map key xs) e in
            let r : One n xs = one n xs (omega (arith, a, l)) in
            (x, r.0, inl refl, inr r.1, e, r.2, d.0 r.0 r.1)
        go (inr e) f =
            let r : Two n xs = f (subst (λ m. 1 < m) (times_other n (key x) (map key xs) e) l) in
            (r.0, r.1, inr r.2, inr r.3, r.4, r.5, r.6)

    abbrev pub Three : ℕ → List A → Type 0
    Three n xs = (x : A) × (y : A) × (z : A) × In x xs × In y xs × In z xs × (n ≡ key x) × (n ≡ key y) × (n ≡ key z)
        × (name x ≡ name y → ⊥) × (name y ≡ name z → ⊥) × (name x ≡ name z → ⊥)

    three : (n : ℕ) (xs : List A) → Distinct name xs → 2 < times n (map key xs) → Three n xs
    three n [] d l = absurd (omega (arith, l))
    three n (x ∷ xs) d l = go (equal_or_not n (key x)) (λ m. three n xs d.1 m)
      where
        go : ((n ≡ key x) ⊎ (n ≡ key x → ⊥)) → (2 < times n (map key xs) → Three n xs) → Three n (x ∷ xs)
        go (inl e) f =
            let a : times n (key x ∷ map key xs) ≡ suc (times n (map key xs)) = times_same n (key x) (map key xs) e in
            let r : Two n xs = two n xs d.1 (omega (arith, a, l)) in
            (x, r.0, r.1, inl refl, inr r.2, inr r.3, e, r.4, r.5, d.0 r.0 r.2, r.6, d.0 r.1 r.3)
        go (inr e) f =
            let r : Three n xs = f (subst (λ m. 2 < m) (times_other n (key x) (map key xs) e) l) in
            (r.0, r.1, r.2, inr r.3, inr r.4, inr r.5, r.6, r.7, r.8, r.9, r.10, r.11)

    -- no three of one key
    abbrev pub NoThree : List A → Type 0
    NoThree xs = (n : ℕ) → Three n xs → ⊥

    pub sift_none : (xs : List A) → Distinct name xs → NoThree xs → first_of_each_key key 2 [] xs ≡ xs
    sift_none xs d h = sift_all 2 [] xs (λ x m. go (key x) (nat_lt 2 (times (key x) (map key xs))) refl)
      where
        go : (n : ℕ) (b : Bool) → nat_lt 2 (times n (map key xs)) ≡ b → 0 + times n (map key xs) ≤ 2
        go n true e = absurd (h n (three n xs d (Rattle.std.proofs.lemmas.Bool.ltb-true 2 (times n (map key xs)) e)))
        go n false e = let a : times n (map key xs) ≤ 2 =
            Rattle.std.proofs.lemmas.Bool.ltb-false 2 (times n (map key xs)) e in omega (arith, a)

-- ---- the last that passes

module _ (p : PartialReading → Bool) where
  passing : List PartialReading → List PartialReading
  passing [] = []
  passing (x ∷ xs) = cons_if (p x) x (passing xs)

  front : List PartialReading → Option PartialReading
  front [] = None
  front (x ∷ xs) = Some x

  front_if : (b : Bool) (x : PartialReading) (xs : List PartialReading) → first_if b x (front xs)
      ≡ front (cons_if b x xs)
  unfolding front
  front_if true x xs = refl
  front_if false x xs = refl

  first_passing : (xs : List PartialReading) → first_that p xs ≡ front (passing xs)
  unfolding passing front
  first_passing [] = refl
  first_passing (x ∷ xs) = ap (first_if (p x) x) (first_passing xs) ∙ front_if (p x) x (passing xs)

  cons_append : (b : Bool) (x : PartialReading) (xs ys : List PartialReading) → cons_if b x (xs ++ ys) ≡ cons_if b x xs
      ++ ys
  cons_append true x xs ys = refl
  cons_append false x xs ys = refl

  passing_append : (xs ys : List PartialReading) → passing (xs ++ ys) ≡ passing xs ++ passing ys
  unfolding passing
  passing_append [] ys = refl
  passing_append (x ∷ xs) ys = ap (cons_if (p x) x) (passing_append xs ys)
      ∙ cons_append (p x) x (passing xs) (passing ys)

  turned_one : (b : Bool) (x : PartialReading) (xs : List PartialReading)
      → reverse xs ++ cons_if b x [] ≡ reverse (cons_if b x xs)
  turned_one true x xs = sym (reverse-append (x ∷ []) xs)
  turned_one false x xs = append-nil (reverse xs)

  passing_reverse : (xs : List PartialReading) → passing (reverse xs) ≡ reverse (passing xs)
  unfolding passing
  passing_reverse [] = refl
  passing_reverse (x ∷ xs) =
      ap passing (reverse-append (x ∷ []) xs) ∙ passing_append (reverse xs) (x ∷ [])
      ∙ ap (λ l. l ++ cons_if (p x) x []) (passing_reverse xs) ∙ turned_one (p x) x (passing xs)

  last_passing : (xs : List PartialReading) → last_that p xs ≡ front (reverse (passing xs))
  last_passing xs = first_passing (reverse xs) ∙ ap front (passing_reverse xs)

  passing_sift : (s : List ℕ) (xs : List PartialReading)
      → ((x : PartialReading) → In x xs → p x ≡ true
      → times (state_number x) s + times (state_number x) (map state_number xs) ≤ 2) →
      passing (first_of_each_key state_number 2 s xs) ≡ passing xs
  unfolding passing
  passing_sift s [] h = refl
  passing_sift s (x ∷ xs) h = go (p x) refl (passing_sift (state_number x ∷ s) xs
      (λ y m e. subst (λ n. n ≤ 2) (sym (plus_plus (Rattle.std.specs.Prelude.nat_eq (state_number y) (state_number x))
      (times (state_number y) s) (times (state_number y) (map state_number xs)))) (h y (inr m) e)))
    where
      l : List PartialReading
      l = first_of_each_key state_number 2 (state_number x ∷ s) xs

      drop : (b : Bool) → p x ≡ false → passing (cons_if b x l) ≡ passing l
      drop true e = ap (λ c. cons_if c x (passing l)) e
      drop false e = refl

      few : p x ≡ true → times (state_number x) s < 2
      few e =
          let a : times (state_number x) s + times (state_number x) (state_number x ∷ map state_number xs) ≤ 2 =
          h x (inl refl) e in
          let b : times (state_number x) (state_number x ∷ map state_number xs)
          ≡ suc (times (state_number x) (map state_number xs)) =
          times_same (state_number x) (state_number x) (map state_number xs) refl in
          omega (arith, a, b)

      go : (b : Bool) → p x ≡ b → passing l ≡ passing xs
          → passing (cons_if (nat_lt (times (state_number x) s) 2) x l) ≡ cons_if b x (passing xs)
      go true e r = ap (λ b. passing (cons_if b x l)) (lt-ltb (times (state_number x) s) 2 (few e))
          ∙ ap (λ b. cons_if b x (passing l)) e ∙ ap (λ v. x ∷ v) r
      go false e r = drop (nat_lt (times (state_number x) s) 2) e ∙ r

  pub last_sift : (xs : List PartialReading) → ((x : PartialReading) → In x xs → p x ≡ true
      → times (state_number x) (map state_number xs) ≤ 2) → last_that p (first_two_each xs) ≡ last_that p xs
  last_sift xs h = last_passing (first_two_each xs)
      ∙ ap (λ l. front (reverse l)) (passing_sift [] xs
      (λ x m e. let a : times (state_number x) (map state_number xs) ≤ 2 = h x m e in omega (arith, a)))
      ∙ sym (last_passing xs)

-- ---- the runs

module _ (i : Input) (pat : Ops) (len : ℕ) (lawful : Lawful i len) (checked : Checked pat) (order : Order)
    (orders : Orders order) where
  pub whole-inv : {q : ℕ} {xs : List PartialReading} → ReachesUnbounded order i pat q xs → Inv i pat q xs
  whole-inv whole_start = inv-start i pat len lawful checked
  whole-inv (whole_next q m n f y ms xs h e c k) =
      subst (λ p. Inv i pat p (order m (targets (move n f y ∷ ms)))) (sym k) (go (whole-inv h))
    where
      go : Inv i pat q xs → Inv i pat (q + n) (order m (targets (move n f y ∷ ms)))
      go u =
          let v : Inv i pat (q + n) (targets (move n f y ∷ ms)) =
          inv-next i pat len lawful checked q xs u n f y ms e c in
          let r : Reordered (order m (targets (move n f y ∷ ms))) (targets (move n f y ∷ ms)) =
          orders m (targets (move n f y ∷ ms)) v.once in
          let w : (z : PartialReading) → In z (targets (move n f y ∷ ms)) → fresh (trace z) ≡ true =
          next_fresh i pat len lawful checked q xs u n f y ms e c in
          record {
            sound = λ x a. v.sound x (r.only x a);
            once = r.once;
            roots = inl (λ x a. w x (r.only x a));
            all = λ z a b. r.every z (v.all z a b);
            jump = v.jump;
            some = (v.some.0, r.every v.some.0 v.some.1);
            calm = v.calm;
          }

  two-whole : (q : ℕ) (xs : List PartialReading) → Inv i pat q xs → closure_two_each i (state_count pat) q xs
      ≡ first_two_each (closure i q xs)
  two-whole q xs v = held-is i pat len lawful checked q xs v.sound

  all-whole : (q : ℕ) (xs : List PartialReading) → Inv i pat q xs → AtMostTwo i pat q
      → closure_two_each i (state_count pat) q xs ≡ closure i q xs
  all-whole q xs v a =
      two-whole q xs v
      ∙ sift_none state_number trace (closure i q xs) (held-once i pat len lawful checked q xs v)
      (λ n t. a t.0 t.1 t.2 (at t.0 t.3) (at t.1 t.4) (at t.2 t.5)
      (same-dot i i pat t.0 t.1 (at t.0 t.3).0 (at t.1 t.4).0 (sym t.6 ∙ t.7))
      (same-dot i i pat t.1 t.2 (at t.1 t.4).0 (at t.2 t.5).0 (sym t.7 ∙ t.8))
      (λ e. t.9 (ap trace e)) (λ e. t.10 (ap trace e)) (λ e. t.11 (ap trace e)))
    where
      at : (x : PartialReading) → In x (closure i q xs) → EndsAt i pat q x
      at x m = held-sound i pat len lawful checked q xs v x m

  only-whole : (q : ℕ) (xs : List PartialReading) → Inv i pat q xs → closure_two_each i (state_count pat) q xs
      ≡ closure i q xs
      → AtMostTwo i pat q
  only-whole q xs v e x y z a b c d f k l m =
      let g : 3 ≤ times (state_number x) (map state_number (first_two_each (closure i q xs))) =
      three_times state_number trace (state_number x) (first_two_each (closure i q xs)) x y z (here x a) (here y b)
      (here z c) refl
      (same-number y x (sym d)) (same-number z x (sym (d ∙ f)))
      (λ p. k (stories x y a b p)) (λ p. l (stories y z b c p)) (λ p. m (stories x z a c p)) in
      let h : times (state_number x) (map state_number (first_two_each (closure i q xs))) ≤ 2 - times (state_number x)
      [] =
      sift_few state_number trace 2 (state_number x) [] (closure i q xs) in
      omega (arith, g, h)
    where
      here : (u : PartialReading) → EndsAt i pat q u → In u (first_two_each (closure i q xs))
      here u w = subst (In u) (sym e ∙ two-whole q xs v) (held-all i pat len lawful checked q xs v u w)

      stories : (u w : PartialReading) → EndsAt i pat q u → EndsAt i pat q w → trace u ≡ trace w → u ≡ w
      stories u w a b p = by_name (closure i q xs) (held-once i pat len lawful checked q xs v)
          (held-all i pat len lawful checked q xs v u a) (held-all i pat len lawful checked q xs v w b) p
        where
          by_name : (us : List PartialReading) → Distinct trace us → In u us → In w us → trace u ≡ trace w → u ≡ w
          by_name [] d a b p = absurd a
          by_name (t ∷ us) d (inl a) (inl b) p = a ∙ sym b
          by_name (t ∷ us) d (inl a) (inr b) p = absurd (d.0 w b (ap trace (sym a) ∙ p))
          by_name (t ∷ us) d (inr a) (inl b) p = absurd (d.0 u a (ap trace (sym b) ∙ sym p))
          by_name (t ∷ us) d (inr a) (inr b) p = by_name us d.1 a b p

  first-whole : (q : ℕ) (xs : List PartialReading) → Inv i pat q xs → (p : PartialReading → Bool)
      → ((x y : PartialReading) → state_of x ≡ state_of y → p x ≡ p y) →
      first_that p (closure_two_each i (state_count pat) q xs) ≡ first_that p (closure i q xs)
  first-whole q xs v p a =
      ap (first_that p) (two-whole q xs v)
      ∙ first_sift (IsPartialReading i pat) p (λ x y c d e. a x y (same-dot i i pat x y c d e)) 2 (omega arith) []
      (closure i q xs)
      (λ x m. (held-sound i pat len lawful checked q xs v x m).0) (λ x h e. refl)

  last-whole : (q : ℕ) (xs : List PartialReading) → Inv i pat q xs → (p : PartialReading → Bool)
      → ((x y : PartialReading) → state_of x ≡ state_of y → p x ≡ p y) → AtMostTwoThat p i pat q →
      last_that p (closure_two_each i (state_count pat) q xs) ≡ last_that p (closure i q xs)
  last-whole q xs v p a b = ap (last_that p) (two-whole q xs v)
      ∙ last_sift p (closure i q xs) (λ x m e. go x m e
      (nat_lt 2 (times (state_number x) (map state_number (closure i q xs))))
      refl)
    where
      at : (x : PartialReading) → In x (closure i q xs) → EndsAt i pat q x
      at x m = held-sound i pat len lawful checked q xs v x m

      never : (x : PartialReading) → In x (closure i q xs) → p x ≡ true
          → Three state_number trace (state_number x) (closure i q xs) → ⊥
      never x m e t =
          b t.0 t.1 t.2 (at t.0 t.3) (at t.1 t.4) (at t.2 t.5)
          (same-dot i i pat t.0 t.1 (at t.0 t.3).0 (at t.1 t.4).0 (sym t.6 ∙ t.7))
          (same-dot i i pat t.1 t.2 (at t.1 t.4).0 (at t.2 t.5).0 (sym t.7 ∙ t.8))
          (λ c. t.9 (ap trace c)) (λ c. t.10 (ap trace c)) (λ c. t.11 (ap trace c))
          (a t.0 x (same-dot i i pat t.0 x (at t.0 t.3).0 (at x m).0 (sym t.6)) ∙ e)

      go : (x : PartialReading) → In x (closure i q xs) → p x ≡ true → (c : Bool)
          → nat_lt 2 (times (state_number x) (map state_number (closure i q xs))) ≡ c
          → times (state_number x) (map state_number (closure i q xs)) ≤ 2
      go x m e true f = absurd (never x m e
          (three state_number trace (state_number x) (closure i q xs) (held-once i pat len lawful checked q xs v)
          (Rattle.std.proofs.lemmas.Bool.ltb-true 2 (times (state_number x) (map state_number (closure i q xs))) f)))
      go x m e false f =
          Rattle.std.proofs.lemmas.Bool.ltb-false 2 (times (state_number x) (map state_number (closure i q xs))) f

  abbrev Before : ℕ → Type 0
  Before q = (p : ℕ) → p < q → AtMostTwo i pat p

  to-whole : {q : ℕ} {xs : List PartialReading} → ReachesInOrder order i pat q xs → Before q
      → ReachesUnbounded order i pat q xs
  to-whole order_start b = whole_start
  to-whole (order_next q m n f y ms xs h e c k) b = go (to-whole h)
    where
      some : 0 < n
      some =
          (goes_any i pat len lawful checked q n f y ms xs (order m (targets (move n f y ∷ ms)))
          (comes-any i pat len lawful checked (ordered-any i pat len lawful checked order orders h)) e c
          (in_order i pat len lawful checked order orders q n m f y ms xs
          (comes-any i pat len lawful checked (ordered-any i pat len lawful checked order orders h)) e)).1

      go : (((p : ℕ) → p < q → AtMostTwo i pat p) → ReachesUnbounded order i pat q xs)
          → ReachesUnbounded order i pat m (order m (targets (move n f y ∷ ms)))
      go ih =
          let s = some in
          let w : ReachesUnbounded order i pat q xs = ih (λ p l. b p (omega (arith, l, k))) in
          whole_next q m n f y ms xs w (ap (moves_of i q)
          (sym (all-whole q xs (whole-inv w) (b q (omega (arith, s, k))))) ∙ e) c k

  from-whole : {q : ℕ} {xs : List PartialReading} → ReachesUnbounded order i pat q xs → Before q
      → ReachesInOrder order i pat q xs
  from-whole whole_start b = order_start
  from-whole (whole_next q m n f y ms xs h e c k) b =
      let v : Inv i pat q xs = whole-inv h in
      let s : (0 < n) × (q + n ≤ len) = some_width i pat len lawful checked q xs v n f y ms e c in
      let s0 = s.0 in
      order_next q m n f y ms xs (from-whole h (λ p l. b p (omega (arith, l, k))))
      (ap (moves_of i q) (all-whole q xs v (b q (omega (arith, s0, k)))) ∙ e) c k

pub drops_law : DropsLaw
drops_law order o g pat argument w k q b = record {
  bounded = λ xs h.
      let u : ReachesUnbounded order (input_of g argument) pat q xs =
      to-whole (input_of g argument) pat (flat_len argument) (lawful_input g argument w) k order o h b in
      let v : Inv (input_of g argument) pat q xs =
      whole-inv (input_of g argument) pat (flat_len argument) (lawful_input g argument w) k order o u in
      record {
        whole = u;
        two = two-whole (input_of g argument) pat (flat_len argument) (lawful_input g argument w) k order o q xs v;
        first = first-whole (input_of g argument) pat (flat_len argument) (lawful_input g argument w) k order o q xs v;
        all = all-whole (input_of g argument) pat (flat_len argument) (lawful_input g argument w) k order o q xs v;
        last = last-whole (input_of g argument) pat (flat_len argument) (lawful_input g argument w) k order o q xs v;
        only = only-whole (input_of g argument) pat (flat_len argument) (lawful_input g argument w) k order o q xs v;
      };
  whole = λ xs h. from-whole (input_of g argument) pat (flat_len argument) (lawful_input g argument w) k order o h b;
}
