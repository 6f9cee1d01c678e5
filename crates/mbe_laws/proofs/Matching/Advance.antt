-- From place to place, and the verdict at the last.
use Rattle.std.proofs.Common.{ℕ, ◌+◌, ◌≡◌, ◌⊎◌, ◌<◌, ◌≤◌, inl, inr, Some, Bool, true, false, List, [], ◌∷◌, refl, sym}
use Rattle.std.proofs.Common.{◌∙◌, ap, subst, arith, eq-or-lt_of_le}
use Rattle.mbe_semantics.specs.Syntax.Op.{Ops}
use Rattle.mbe_semantics.specs.Readings.Item.{Items}
use Rattle.mbe_semantics.specs.Readings.Input.{Input}
use Rattle.mbe_semantics.specs.Readings.Reading.{PartialReading, offset, IsPartialReading, EndsAt, start, Reading}
use Rattle.mbe_semantics.specs.Readings.Steps.{Move, move, next}
use Rattle.mbe_semantics.specs.Matching.Lists.{In, Distinct}
use Rattle.mbe_semantics.specs.Matching.Trace.{trace, fresh, steps}
use Rattle.mbe_semantics.specs.Syntax.Nullable.{Checked}
use Rattle.mbe_semantics.specs.Laws.Lawful.{Lawful}
use Rattle.mbe_semantics.specs.Matching.Closure.{closure, moves_of, targets, has_ambiguity}
use Rattle.mbe_semantics.specs.Readings.Ambiguity.{Ambiguous, NoAmbiguity}
use Rattle.mbe_semantics.specs.Readings.Verdict.{ambiguous, stuck, IsVerdictOn}
use Rattle.mbe_semantics.proofs.Parents.{Idles, Moves, From, parents, next-sound}
use Rattle.mbe_semantics.proofs.Traces.{idle-after}
use Rattle.mbe_laws.proofs.Matching.Moves.{next-takes}
use Rattle.mbe_laws.proofs.Matching.Ambiguities.{from_filter, in_filter, from_targets, in_targets, clear_with}
use Rattle.mbe_laws.proofs.Matching.Ambiguities.{ambiguity_found, ambiguity_missed, targets_distinct}
use Rattle.mbe_laws.proofs.Matching.Law.{Root, Inv, by_steps, held-sound, held-once, held-all, moves_fresh, moves_steps}
use Rattle.mbe_laws.proofs.Matching.Law.{idles_steps}

module _ (i : Input) (pat : Ops) (len : ℕ) (lawful : Lawful i len) (checked : Checked pat) where
  moves_offset : (x y : PartialReading) → Moves i x y → offset x < offset y
  moves_offset x y m =
      let l : (0 < m.0) × (offset x + m.0 ≤ len) = next-takes i len (offset x) m.0 m.1 x y lawful m.2 in
      let e : offset y ≡ offset x + m.0 = m.3 in
      omega arith

  idles_stale : (x y : PartialReading) → Idles i x y → fresh (trace y) ≡ true → ⊥
  idles_stale x y s f = let g : true ≡ false = sym f ∙ (idle-after i (offset x) x y s.0).2 in cc

  -- where the matcher begins
  pub inv-start : Inv i pat 0 (start pat ∷ [])
  inv-start = record {
    sound = sound;
    once = ((λ y h. absurd h), tt);
    roots = inr refl;
    all = all;
    jump = λ x y b m l. absurd (omega arith);
    some = (start pat, inl refl);
    calm = λ p l a. absurd (omega arith);
  }
    where
      sound : (x : PartialReading) → In x (start pat ∷ []) → EndsAt i pat 0 x
      sound x (inl e) = subst (EndsAt i pat 0) (sym e) ((tt, refl), refl)
      sound x (inr h) = absurd h

      from : (y : PartialReading) → EndsAt i pat 0 y → fresh (trace y) ≡ true → ((y ≡ start pat) ⊎ From i pat y)
          → In y (start pat ∷ [])
      from y a f (inl e) = inl e
      from y a f (inr (x, b, inl s)) = absurd (idles_stale x y s f)
      from y a f (inr (x, b, inr m)) = let l : offset x < offset y = moves_offset x y m in let e : offset y ≡ 0 =
          a.1 in absurd (omega arith)

      all : (y : PartialReading) → EndsAt i pat 0 y → Root pat y → In y (start pat ∷ [])
      all y a (inl f) = from y a f (parents i pat y a.0)
      all y a (inr e) = inl e

  module _ (q : ℕ) (xs : List PartialReading) (v : Inv i pat q xs) where
    in_closed : (y : PartialReading) → EndsAt i pat q y → In y (closure i q xs)
    in_closed y a = held-all i pat len lawful checked q xs v y a

    listed : (x y : PartialReading) → IsPartialReading i pat x → offset x ≡ q → (m : Moves i x y)
        → In (move m.0 m.1 y) (moves_of i q (closure i q xs))
    listed x y b e m =
        in_filter (next i q) x (move m.0 m.1 y) (closure i q xs) (in_closed x (b, e))
        (subst (λ p. next i p x ≡ Some (move m.0 m.1 y)) e m.2)

    -- no ambiguity here
    pub calm-here : has_ambiguity (moves_of i q (closure i q xs)) ≡ false → Ambiguous i pat q → ⊥
    calm-here e a =
        ambiguity_missed i pat q (closure i q xs) e a.one a.other (in_closed a.one a.one_at)
        (in_closed a.other a.other_at)
        a.differ
        a.n a.m a.f a.g a.one_steps a.other_steps a.ambiguity

    pub right-ambiguous : has_ambiguity (moves_of i q (closure i q xs)) ≡ true → IsVerdictOn i pat len (ambiguous q)
    right-ambiguous e = (
      ambiguity_found i pat q (closure i q xs) (held-sound i pat len lawful checked q xs v)
          (held-once i pat len lawful checked q xs v) e,
      v.calm,
    )

    -- where nothing goes on, nothing ends later
    module _ (e : moves_of i q (closure i q xs) ≡ []) where
      pub last-place : (y : PartialReading) → IsPartialReading i pat y → offset y ≤ q
      last-place = by_steps i pat len lawful checked (λ y. IsPartialReading i pat y → offset y ≤ q)
          (λ y ih b. turn y ih (parents i pat y b))
        where
          jump : (x y : PartialReading) → IsPartialReading i pat x → Moves i x y → offset x ≤ q → offset y ≤ q
          jump x y b m l =
              elim (eq-or-lt_of_le l) [
                | inl p ↦ (let n : In (move m.0 m.1 y) [] = subst (λ ms. In (move m.0 m.1 y) ms) e (listed x y b p m) in
                    absurd n)
                | inr p ↦ v.jump x y b m p
              ]

          turn : (y : PartialReading) → ((x : PartialReading) → steps (trace x) < steps (trace y)
              → IsPartialReading i pat x → offset x ≤ q)
              → ((y ≡ start pat) ⊎ From i pat y) → offset y ≤ q
          turn y ih (inl p) = let d : offset y ≡ 0 = ap offset p in omega arith
          turn y ih (inr (x, b, inl s)) = let d : offset y ≡ offset x = s.1 in let l : offset x ≤ q =
              ih x (idles_steps i pat len lawful checked x y s) b in omega arith
          turn y ih (inr (x, b, inr m)) = jump x y b m (ih x (moves_steps i pat len lawful checked x y m) b)

      pub calm-all : NoAmbiguity i pat
      calm-all p a =
          let l : offset a.one ≤ q = last-place a.one a.one_at.0 in
          let d : offset a.one ≡ p = a.one_at.1 in
          elim (eq-or-lt_of_le (let k : p ≤ q = omega arith in k))
          [ inl f ↦ calm-here (ap has_ambiguity e) (subst (λ r. Ambiguous i pat r) f a) | inr k ↦ v.calm p k a ]

      pub right-stuck : ((is : Items) → Reading i pat len is → ⊥) → IsVerdictOn i pat len (stuck q)
      right-stuck n = (calm-all, n, (v.some.0, v.sound v.some.0 v.some.1), last-place)

    -- the next place
    module _ (n : ℕ) (f : Bool) (y0 : PartialReading) (ms : List Move) (e : moves_of i q (closure i q xs) ≡ move n f y0
        ∷ ms)
        (c : has_ambiguity (move n f y0 ∷ ms) ≡ false) where
      all_width : (k : ℕ) (g : Bool) (z : PartialReading) → In (move k g z) (move n f y0 ∷ ms) → n ≡ k
      all_width k g z (inl d) = cc
      all_width k g z (inr m) = (clear_with n f ms c k g z m).2

      width : (x y : PartialReading) → IsPartialReading i pat x → offset x ≡ q → (m : Moves i x y) → offset y ≡ q + n
      width x y b p m =
          let w : n ≡ m.0 = all_width m.0 m.1 y (subst (λ l. In (move m.0 m.1 y) l) e (listed x y b p m)) in
          let d : offset y ≡ offset x + m.0 = m.3 in
          omega arith

      source : (k : ℕ) (g : Bool) (z : PartialReading) → In (move k g z) (move n f y0 ∷ ms)
          → (x : PartialReading) × In x (closure i q xs) × (next i q x ≡ Some (move k g z))
      source k g z m = from_filter (next i q) (move k g z) (closure i q xs) (subst (λ l. In (move k g z) l) (sym e) m)

      pub some_width : (0 < n) × (q + n ≤ len)
      some_width =
          let s : (x : PartialReading) × In x (closure i q xs) × (next i q x ≡ Some (move n f y0)) =
          source n f y0 (inl refl) in
          next-takes i len q n f s.0 y0 lawful s.2

      -- no beginning ends between the two places
      between : (y : PartialReading) → IsPartialReading i pat y → offset y < q + n → offset y ≤ q
      between = by_steps i pat len lawful checked (λ y. IsPartialReading i pat y → offset y < q + n → offset y ≤ q)
          (λ y ih b l. turn y ih l (parents i pat y b))
        where
          jump : (x y : PartialReading) → IsPartialReading i pat x → Moves i x y → offset y < q + n → offset x ≤ q
              → offset y ≤ q
          jump x y b m k l =
              elim (eq-or-lt_of_le l) [
                | inl p ↦ (let d : offset y ≡ q + n = width x y b p m in absurd (omega arith))
                | inr p ↦ v.jump x y b m p
              ]

          turn : (y : PartialReading) → ((x : PartialReading) → steps (trace x) < steps (trace y)
              → IsPartialReading i pat x
              → offset x < q + n → offset x ≤ q) → offset y < q + n →
              ((y ≡ start pat) ⊎ From i pat y) → offset y ≤ q
          turn y ih k (inl p) = let d : offset y ≡ 0 = ap offset p in omega arith
          turn y ih k (inr (x, b, inl s)) =
              let d : offset y ≡ offset x = s.1 in
              let l : offset x ≤ q = ih x (idles_steps i pat len lawful checked x y s) b (omega arith) in omega arith
          turn y ih k (inr (x, b, inr m)) =
              let d : offset x < offset y = moves_offset x y m in
              jump x y b m k (ih x (moves_steps i pat len lawful checked x y m) b (omega arith))

      next_sound : (y : PartialReading) → In y (targets (move n f y0 ∷ ms)) → EndsAt i pat (q + n) y
      next_sound y h =
          let r : (k : ℕ) × (g : Bool) × In (move k g y) (move n f y0 ∷ ms) = from_targets y (move n f y0 ∷ ms) h in
          let s : (x : PartialReading) × In x (closure i q xs) × (next i q x ≡ Some (move r.0 r.1 y)) =
          source r.0 r.1 y r.2 in
          let a : EndsAt i pat (q + r.0) y = next-sound i pat q r.0 r.1 s.0 y
          (held-sound i pat len lawful checked q xs v s.0 s.1) s.2 in
          subst (λ k. EndsAt i pat (q + k) y) (sym (all_width r.0 r.1 y r.2)) a

      pub next_fresh : (y : PartialReading) → In y (targets (move n f y0 ∷ ms)) → fresh (trace y) ≡ true
      next_fresh y h =
          let r : (k : ℕ) × (g : Bool) × In (move k g y) (move n f y0 ∷ ms) = from_targets y (move n f y0 ∷ ms) h in
          let s : (x : PartialReading) × In x (closure i q xs) × (next i q x ≡ Some (move r.0 r.1 y)) =
          source r.0 r.1 y r.2 in
          let a : EndsAt i pat q s.0 = held-sound i pat len lawful checked q xs v s.0 s.1 in
          let w : n ≡ r.0 = all_width r.0 r.1 y r.2 in
          let b : EndsAt i pat (q + n) y = next_sound y h in
          let d : offset s.0 ≡ q = a.1 in
          let d' : offset y ≡ q + n = b.1 in
          moves_fresh i pat len lawful checked s.0 y
          (r.0, r.1, subst (λ p. next i p s.0 ≡ Some (move r.0 r.1 y)) (sym d) s.2, omega arith)

      next_all : (y : PartialReading) → EndsAt i pat (q + n) y → Root pat y → In y (targets (move n f y0 ∷ ms))
      next_all y a r = turn (parents i pat y a.0)
        where
          here : (x : PartialReading) → IsPartialReading i pat x → Moves i x y → offset x ≤ q
              → In y (targets (move n f y0 ∷ ms))
          here x b m l =
              elim (eq-or-lt_of_le l) [
                | inl p ↦ in_targets m.0 m.1 y (move n f y0 ∷ ms)
                    (subst (λ k. In (move m.0 m.1 y) k) e (listed x y b p m))
                | inr p ↦ (let d : offset y ≤ q = v.jump x y b m p in let d' : offset y ≡ q + n = a.1 in let s : (0 < n)
                    × (q + n ≤ len) = some_width in absurd (omega arith))
              ]

          stale : (x : PartialReading) → Idles i x y → Root pat y → ⊥
          stale x s (inl g) = idles_stale x y s g
          stale x s (inr p) = let d : offset y ≡ 0 = ap offset p in let d' : offset y ≡ q + n =
              a.1 in let w : (0 < n) × (q + n ≤ len) = some_width in absurd (omega arith)

          turn : ((y ≡ start pat) ⊎ From i pat y) → In y (targets (move n f y0 ∷ ms))
          turn (inl p) = let d : offset y ≡ 0 = ap offset p in let d' : offset y ≡ q + n =
              a.1 in let s : (0 < n) × (q + n ≤ len) = some_width in absurd (omega arith)
          turn (inr (x, b, inl s)) = absurd (stale x s r)
          turn (inr (x, b, inr m)) =
              let d : offset x < offset y = moves_offset x y m in
              let d' : offset y ≡ q + n = a.1 in
              here x b m (between x b (omega arith))

      next_jump : (x y : PartialReading) → IsPartialReading i pat x → Moves i x y → offset x < q + n → offset y ≤ q + n
      next_jump x y b m l =
          elim (eq-or-lt_of_le (between x b l)) [
            | inl p ↦ (let d : offset y ≡ q + n = width x y b p m in omega arith)
            | inr p ↦ (let d : offset y ≤ q = v.jump x y b m p in omega arith)
          ]

      next_clear : (p : ℕ) → p < q + n → Ambiguous i pat p → ⊥
      next_clear p l a =
          let d : offset a.one ≡ p = a.one_at.1 in
          let k : offset a.one ≤ q = between a.one a.one_at.0 (omega arith) in
          elim (eq-or-lt_of_le (let j : p ≤ q = omega arith in j))
          [ inl g ↦ calm-here (ap has_ambiguity e ∙ c) (subst (λ r. Ambiguous i pat r) g a) | inr j ↦ v.calm p j a ]

      pub inv-next : Inv i pat (q + n) (targets (move n f y0 ∷ ms))
      inv-next = record {
        sound = next_sound;
        once = subst (λ l. Distinct trace (targets l)) e
            (targets_distinct i pat q (closure i q xs) (held-once i pat len lawful checked q xs v));
        roots = inl next_fresh;
        all = next_all;
        jump = next_jump;
        some = (y0, inl refl);
        calm = next_clear;
      }
