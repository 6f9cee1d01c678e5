-- What the first two of each dot do at a place is what all of them do.
use Rattle.std.proofs.Common.{ℕ, zero, suc, ◌≡◌, ◌⊎◌, ◌<◌, inl, inr, Option, Some, None, Bool, true, false, List, []}
use Rattle.std.proofs.Common.{◌∷◌, refl, sym, ◌∙◌, ap, subst, arith, option_map}
use Rattle.std.specs.Prelude.{nat_lt}
use Rattle.std.specs.List.{cons_option}
use Rattle.std.proofs.lemmas.Bool.{le-ltb}
use Rattle.mbe_semantics.specs.Syntax.Op.{Ops, no_ops, op}
use Rattle.mbe_semantics.specs.Readings.Item.{Items}
use Rattle.mbe_semantics.specs.Readings.Input.{Input}
use Rattle.mbe_semantics.specs.Readings.Reading.{inside, within, PartialReading, partial, EndsAt}
use Rattle.mbe_semantics.specs.Readings.Steps.{Move, move, next}
use Rattle.mbe_semantics.specs.Matching.Lists.{In, Distinct}
use Rattle.mbe_semantics.specs.Matching.Trace.{trace}
use Rattle.mbe_semantics.specs.Syntax.Nullable.{Checked}
use Rattle.mbe_semantics.specs.Laws.Lawful.{Lawful}
use Rattle.mbe_semantics.specs.Matching.Closure.{closure, moves_of, completed, completions, has_ambiguity}
use Rattle.mbe_semantics.specs.Readings.Ambiguity.{StepsOver, Ambiguous}
use Rattle.mbe_semantics.specs.Readings.Verdict.{verdict_of}
use Rattle.mbe_laws.proofs.Matching.Law.{Inv, held-sound, held-once, held-all}
use Rattle.mbe_laws.proofs.Matching.Advance.{calm-here}
use Rattle.mbe_laws.proofs.Matching.Ambiguities.{from_filter, in_filter, clear_with, ambiguity_found, ambiguity_missed}
use Rattle.mbe_semantics.specs.Matching.States.{state_count, state_number}
use Rattle.mbe_laws.specs.Bounded.ClosureTwoEach.{cons_if, times, first_of_each_key, first_two_each}
use Rattle.mbe_laws.proofs.States.Sift.{equal_or_not, times_same, times_other, from_sift, distinct_sift, Left, one_left}
use Rattle.mbe_laws.proofs.States.Sift.{LeftTwo, two_left}
use Rattle.mbe_laws.proofs.States.States.{state_move, next_alike}

-- ---- readings

last_number : (x : PartialReading) (is : Items) → completed x ≡ Some is → state_number x ≡ 1
last_number (partial no_ops js []) is e = refl
last_number (partial no_ops js (f ∷ up)) is e = cc
last_number (partial (op o rest) js up) is e = cc

no_last : (x : PartialReading) → completed x ≡ None → 1 ≡ state_number x → ⊥
no_last (partial no_ops js []) e d = cc
no_last (partial no_ops js (inside b c rest ks ∷ up)) e d = let h : 0 < state_count rest =
    some rest in omega (arith, d, h)
  where
    some : (os : Ops) → 0 < state_count os
    some no_ops = omega arith
    some (op o os) = omega arith
no_last (partial no_ops js (within b s k rest ks rs ∷ up)) e d = let h : 0 < state_count rest =
    some rest in omega (arith, d, h)
  where
    some : (os : Ops) → 0 < state_count os
    some no_ops = omega arith
    some (op o os) = omega arith
no_last (partial (op o rest) js up) e d = let h : 0 < state_count rest = some rest in omega (arith, d, h)
  where
    some : (os : Ops) → 0 < state_count os
    some no_ops = omega arith
    some (op o os) = omega arith

-- two in all, where so many came before
abbrev pub at_most_two : {A : Type 0} → ℕ → List A → List A
at_most_two n [] = []
at_most_two zero (x ∷ xs) = x ∷ at_most_two 1 xs
at_most_two (suc zero) (x ∷ xs) = x ∷ at_most_two 2 xs
at_most_two (suc (suc n)) (x ∷ xs) = []

no_more : {A : Type 0} (n : ℕ) (xs : List A) → at_most_two (suc (suc n)) xs ≡ []
no_more n [] = refl
no_more n (x ∷ xs) = refl

completions-sift : (s : List ℕ) (xs : List PartialReading)
    → completions (first_of_each_key state_number 2 s xs) ≡ at_most_two (times 1 s) (completions xs)
completions-sift s [] = refl
completions-sift s (x ∷ xs) = go (completed x) refl (completions-sift (state_number x ∷ s) xs)
  where
    l : List PartialReading
    l = first_of_each_key state_number 2 (state_number x ∷ s) xs

    drop_none : (b : Bool) → completed x ≡ None → completions (cons_if b x l) ≡ completions l
    drop_none true e = ap (λ o. cons_option o (completions l)) e
    drop_none false e = refl

    some : (is : Items) → completed x ≡ Some is → (n : ℕ) → times 1 s ≡ n
        → completions l ≡ at_most_two (suc n) (completions xs) →
        completions (cons_if (nat_lt n 2) x l) ≡ at_most_two n (is ∷ completions xs)
    some is e zero d h = ap (λ o. cons_option o (completions l)) e ∙ ap (λ v. is ∷ v) h
    some is e (suc zero) d h = ap (λ o. cons_option o (completions l)) e ∙ ap (λ v. is ∷ v) h
    some is e (suc (suc n)) d h = ap (λ b. completions (cons_if b x l)) (le-ltb (suc (suc n)) 2 (omega arith)) ∙ h
        ∙ no_more (suc n) (completions xs)

    go : (o : Option Items) → completed x ≡ o → completions l
        ≡ at_most_two (times 1 (state_number x ∷ s)) (completions xs)
        →
        completions (cons_if (nat_lt (times (state_number x) s) 2) x l)
        ≡ at_most_two (times 1 s) (cons_option o (completions xs))
    go None e h = drop_none (nat_lt (times (state_number x) s) 2) e ∙ h
        ∙ ap (λ n. at_most_two n (completions xs)) (times_other 1 (state_number x) s (no_last x e))
    go (Some is) e h =
        let d : state_number x ≡ 1 = last_number x is e in
        ap (λ n. completions (cons_if (nat_lt (times n s) 2) x l)) d
        ∙ some is e (times 1 s) refl (h ∙ ap (λ n. at_most_two n (completions xs))
        (times_same 1 (state_number x) s (sym d)))

same_count : {A : Type 0} (len : ℕ) (rs : List A) → verdict_of len (at_most_two 0 rs) ≡ verdict_of len rs
same_count len [] = refl
same_count len (r ∷ []) = refl
same_count len (r ∷ t ∷ rs) = refl

pub same-end : (len : ℕ) (xs : List PartialReading)
    → verdict_of len (completions (first_two_each xs)) ≡ verdict_of len (completions xs)
same-end len xs = ap (verdict_of len) (completions-sift [] xs) ∙ same_count len (completions xs)

only_one : {A : Type 0} (r : A) (rs : List A) → at_most_two 0 rs ≡ r ∷ [] → rs ≡ r ∷ []
only_one r [] e = cc
only_one r (t ∷ []) e = e
only_one r (t ∷ u ∷ rs) e = cc

pub same-one : (is : Items) (xs : List PartialReading) → completions (first_two_each xs) ≡ is ∷ [] → completions xs ≡ is
    ∷ []
same-one is xs e = only_one is (completions xs) (sym (completions-sift [] xs) ∙ e)

-- ---- moves

goes_same : (i : Input) (q n : ℕ) (f : Bool) (y : PartialReading) (m o : Option Move)
    → option_map state_move m ≡ option_map state_move o → next i q y ≡ o → (v : PartialReading) → m ≡ Some (move n f v)
    → StepsOver i q n f y
goes_same i q n f y None o e d v c = cc
goes_same i q n f y (Some (move m g w)) None e d v c = cc
goes_same i q n f y (Some (move m g w)) (Some (move k h z)) e d v c =
    let a : n ≡ k = cc in
    let b : f ≡ h = cc in
    (z, d ∙ ap (λ j. Some (move j h z)) (sym a) ∙ ap (λ j. Some (move n j z)) (sym b))

module _ (i : Input) (pat : Ops) (len : ℕ) (lawful : Lawful i len) (checked : Checked pat) (q : ℕ)
    (zs : List PartialReading)
    (v : Inv i pat q zs) where
  goes_on : (x y : PartialReading) → EndsAt i pat q x → EndsAt i pat q y → state_number x ≡ state_number y
      → (n : ℕ) (f : Bool)
      → StepsOver i q n f x → StepsOver i q n f y
  goes_on x y a b e n f g = goes_same i q n f y (next i q x) (next i q y) (next_alike i pat q x y a b e) refl g.0 g.1

  all_at : (x : PartialReading) → In x (closure i q zs) → EndsAt i pat q x
  all_at x m = held-sound i pat len lawful checked q zs v x m

  pub two_each_at : (x : PartialReading) → In x (first_two_each (closure i q zs)) → EndsAt i pat q x
  two_each_at x m = all_at x (from_sift state_number 2 [] (closure i q zs) x m)

  pub two_each_once : Distinct trace (first_two_each (closure i q zs))
  two_each_once = distinct_sift state_number 2 trace [] (closure i q zs) (held-once i pat len lawful checked q zs v)

  pub two_each_one : (x : PartialReading) → EndsAt i pat q x → Left state_number 2 [] (closure i q zs) (state_number x)
  two_each_one x a = one_left state_number 2 [] (closure i q zs) x (held-all i pat len lawful checked q zs v x a)
      (omega arith)

  pub two_each_two : (x y : PartialReading) → EndsAt i pat q x → EndsAt i pat q y → state_number x ≡ state_number y
      → (x ≡ y → ⊥)
      → LeftTwo state_number 2 trace [] (closure i q zs) (state_number x)
  two_each_two x y a b e n =
      two_left state_number 2 trace [] (closure i q zs) x y (held-all i pat len lawful checked q zs v x a)
      (held-all i pat len lawful checked q zs v y b) e n
      (held-once i pat len lawful checked q zs v) (omega arith)

  -- an ambiguity is one of those that are left
  missed : has_ambiguity (moves_of i q (first_two_each (closure i q zs))) ≡ false → Ambiguous i pat q → ⊥
  missed e a = go (equal_or_not (state_number a.one) (state_number a.other))
    where
      go : ((state_number a.one ≡ state_number a.other) ⊎ (state_number a.one ≡ state_number a.other → ⊥)) → ⊥
      go (inl d) =
          let r : LeftTwo state_number 2 trace [] (closure i q zs) (state_number a.one) =
          two_each_two a.one a.other a.one_at a.other_at d a.differ in
          ambiguity_missed i pat q (first_two_each (closure i q zs)) e r.0 r.1 r.2 r.3 (λ c. r.6 (ap trace c)) a.n a.m
          a.f a.g
          (goes_on a.one r.0 a.one_at (two_each_at r.0 r.2) (sym r.4) a.n a.f a.one_steps)
          (goes_on a.other r.1 a.other_at (two_each_at r.1 r.3) (sym d ∙ sym r.5) a.m a.g a.other_steps) a.ambiguity
      go (inr d) =
          let r : Left state_number 2 [] (closure i q zs) (state_number a.one) = two_each_one a.one a.one_at in
          let t : Left state_number 2 [] (closure i q zs) (state_number a.other) = two_each_one a.other a.other_at in
          ambiguity_missed i pat q (first_two_each (closure i q zs)) e r.0 t.0 r.1 t.1 (λ c. d (sym r.2
          ∙ ap state_number c ∙ t.2)) a.n
          a.m a.f a.g
          (goes_on a.one r.0 a.one_at (two_each_at r.0 r.1) (sym r.2) a.n a.f a.one_steps)
          (goes_on a.other t.0 a.other_at (two_each_at t.0 t.1) (sym t.2) a.m a.g a.other_steps) a.ambiguity

  pub same-clash : has_ambiguity (moves_of i q (first_two_each (closure i q zs)))
      ≡ has_ambiguity (moves_of i q (closure i q zs))
  same-clash =
      go (has_ambiguity (moves_of i q (first_two_each (closure i q zs))))
      (has_ambiguity (moves_of i q (closure i q zs))) refl refl
    where
      go : (b c : Bool) → has_ambiguity (moves_of i q (first_two_each (closure i q zs))) ≡ b
          → has_ambiguity (moves_of i q (closure i q zs)) ≡ c → b ≡ c
      go true true e d = refl
      go false false e d = refl
      go true false e d = absurd (calm-here i pat len lawful checked q zs v d
          (ambiguity_found i pat q (first_two_each (closure i q zs)) two_each_at two_each_once e))
      go false true e d = absurd (missed e (ambiguity_found i pat q (closure i q zs) all_at
          (held-once i pat len lawful checked q zs v) d))

  -- a move of those that are left is one of all
  pub two_each_move : (m : Move) → In m (moves_of i q (first_two_each (closure i q zs)))
      → In m (moves_of i q (closure i q zs))
  two_each_move m h =
      let s : (x : PartialReading) × In x (first_two_each (closure i q zs)) × (next i q x ≡ Some m) =
      from_filter (next i q) m (first_two_each (closure i q zs)) h in
      in_filter (next i q) s.0 m (closure i q zs) (from_sift state_number 2 [] (closure i q zs) s.0 s.1) s.2

  -- where all have a move, so have those that are left
  pub some_move : (n : ℕ) (f : Bool) (y : PartialReading) → In (move n f y) (moves_of i q (closure i q zs))
      → (w : PartialReading) × In (move n f w) (moves_of i q (first_two_each (closure i q zs)))
  some_move n f y h =
      let s : (x : PartialReading) × In x (closure i q zs) × (next i q x ≡ Some (move n f y)) =
      from_filter (next i q) (move n f y) (closure i q zs) h in
      let r : Left state_number 2 [] (closure i q zs) (state_number s.0) = two_each_one s.0 (all_at s.0 s.1) in
      let g : StepsOver i q n f r.0 = goes_on s.0 r.0 (all_at s.0 s.1) (two_each_at r.0 r.1) (sym r.2) n f (y, s.2) in
      (g.0, in_filter (next i q) r.0 (move n f g.0) (first_two_each (closure i q zs)) r.1 g.1)

  pub same-width : (n m : ℕ) (f g : Bool) (y z : PartialReading) (ms ks : List Move)
      → moves_of i q (first_two_each (closure i q zs)) ≡ move n f y ∷ ms → moves_of i q (closure i q zs) ≡ move m g z
      ∷ ks →
      has_ambiguity (move m g z ∷ ks) ≡ false → m ≡ n
  same-width n m f g y z ms ks e d c = go
      (subst (λ l. In (move n f y) l) d (two_each_move (move n f y)
      (subst (λ l. In (move n f y) l) (sym e) (inl refl))))
    where
      go : In (move n f y) (move m g z ∷ ks) → m ≡ n
      go (inl h) = cc
      go (inr h) = (clear_with m g ks c n f y h).2
