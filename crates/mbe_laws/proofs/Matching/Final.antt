-- The verdict at the end of the input.
use Rattle.std.proofs.Common.{ℕ, ◌+◌, ◌≡◌, ◌<◌, ◌≤◌, inl, inr, Option, Some, None, List, [], ◌∷◌, refl, sym, ◌∙◌, ap}
use Rattle.std.proofs.Common.{subst, arith}
use Rattle.std.specs.List.{cons_option}
use Rattle.mbe_semantics.specs.Syntax.Op.{Ops, no_ops, op}
use Rattle.mbe_semantics.specs.Readings.Item.{Items, items_width}
use Rattle.mbe_semantics.specs.Readings.Input.{Input}
use Rattle.mbe_semantics.specs.Readings.Reading.{PartialReading, partial, offset, EndsAt, Reading}
use Rattle.mbe_semantics.specs.Readings.Steps.{Move, move, next}
use Rattle.mbe_semantics.specs.Matching.Lists.{In, Distinct, NoneAt}
use Rattle.mbe_semantics.specs.Matching.Trace.{trace}
use Rattle.mbe_semantics.specs.Syntax.Nullable.{Checked}
use Rattle.mbe_semantics.specs.Laws.Lawful.{Lawful}
use Rattle.mbe_semantics.specs.Matching.Closure.{closure, moves_of, completed, completions}
use Rattle.mbe_semantics.specs.Readings.Verdict.{IsVerdictOn, verdict_of}
use Rattle.mbe_laws.proofs.Matching.Moves.{next-takes}
use Rattle.mbe_laws.proofs.Matching.Ambiguities.{from_filter, in_filter}
use Rattle.mbe_laws.proofs.Matching.Law.{Inv, held-sound, held-once, held-all}
use Rattle.mbe_laws.proofs.Matching.Advance.{calm-all, right-stuck}

is_complete : (x : PartialReading) (is : Items) → completed x ≡ Some is → x ≡ partial no_ops is []
is_complete (partial no_ops js []) is e = let d : js ≡ is = cc in ap (λ v. partial no_ops v []) d
is_complete (partial no_ops js (f ∷ up)) is e = cc
is_complete (partial (op o rest) js up) is e = cc

distinct_complete : (xs : List PartialReading) → Distinct trace xs → Distinct (λ (is : Items). is) (completions xs)
distinct_complete [] d = tt
distinct_complete (x ∷ xs) d = turn (completed x) refl (distinct_complete xs d.1)
  where
    none : (is : Items) → completed x ≡ Some is → NoneAt (λ (is : Items). is) is (completions xs)
    none is e js h g =
        let s : (z : PartialReading) × In z xs × (completed z ≡ Some js) = from_filter completed js xs h in
        d.0 s.0 s.1 (ap trace (is_complete x is e) ∙ ap (λ v. trace (partial no_ops v [])) g
        ∙ ap trace (sym (is_complete s.0 js s.2)))

    turn : (o : Option Items) → completed x ≡ o → Distinct (λ (is : Items). is) (completions xs)
        → Distinct (λ (is : Items). is) (cons_option o (completions xs))
    turn None e r = r
    turn (Some is) e r = (none is e, r)

no_moves : (i : Input) (len : ℕ) → Lawful i len → (xs : List PartialReading) → moves_of i len xs ≡ []
no_moves i len w [] = refl
no_moves i len w (x ∷ xs) = turn (next i len x) refl (no_moves i len w xs)
  where
    never : (m : Move) → next i len x ≡ Some m → ⊥
    never (move n f y) e = let l : (0 < n) × (len + n ≤ len) = next-takes i len len n f x y w e in omega arith

    turn : (o : Option Move) → next i len x ≡ o → moves_of i len xs ≡ [] → cons_option o (moves_of i len xs) ≡ []
    turn None e r = r
    turn (Some m) e r = absurd (never m e)

module _ (i : Input) (pat : Ops) (len : ℕ) (lawful : Lawful i len) (checked : Checked pat) (xs : List PartialReading)
    (v : Inv i pat len xs) where
  reading_in : (is : Items) → Reading i pat len is → In is (completions (closure i len xs))
  reading_in is r =
      let w : items_width is ≡ len = r.1 in
      in_filter completed (partial no_ops is []) is (closure i len xs)
      (held-all i pat len lawful checked len xs v (partial no_ops is []) ((tt, r.0), omega arith)) refl

  pub reading_of : (is : Items) → In is (completions (closure i len xs)) → Reading i pat len is
  reading_of is h =
      let s : (z : PartialReading) × In z (closure i len xs) × (completed z ≡ Some is) =
      from_filter completed is (closure i len xs) h in
      let a : EndsAt i pat len s.0 = held-sound i pat len lawful checked len xs v s.0 s.1 in
      let b : EndsAt i pat len (partial no_ops is []) = subst (EndsAt i pat len) (is_complete s.0 is s.2) a in
      let w : offset (partial no_ops is []) ≡ len = b.1 in
      (b.0.1, omega arith)

  distinct_readings : Distinct (λ (is : Items). is) (completions (closure i len xs))
  distinct_readings = distinct_complete (closure i len xs) (held-once i pat len lawful checked len xs v)

  none_left : moves_of i len (closure i len xs) ≡ []
  none_left = no_moves i len lawful (closure i len xs)

  pub right_of : (rs : List Items) → completions (closure i len xs) ≡ rs → IsVerdictOn i pat len (verdict_of len rs)
  right_of [] e = right-stuck i pat len lawful checked len xs v none_left
      (λ is r. let h : In is [] = subst (In is) e (reading_in is r) in h)
  right_of (is ∷ []) e = (
    calm-all i pat len lawful checked len xs v none_left,
    (
      is,
      (
        reading_of is (subst (In is) (sym e) (inl refl)),
        (λ js r. only js (subst (In js) e (reading_in js r))),
      ),
    ),
  )
    where
      only : (js : Items) → In js (is ∷ []) → js ≡ is
      only js (inl d) = d
      only js (inr h) = absurd h
  right_of (is ∷ js ∷ rs) e = (
    calm-all i pat len lawful checked len xs v none_left,
    (
      is,
      js,
      reading_of is (subst (In is) (sym e) (inl refl)),
      reading_of js (subst (In js) (sym e) (inr (inl refl))),
      (let d : Distinct (λ (ks : Items). ks) (is ∷ js ∷ rs) = subst (Distinct (λ (ks : Items). ks)) e
          distinct_readings in d.0 js (inl refl)),
    ),
  )
