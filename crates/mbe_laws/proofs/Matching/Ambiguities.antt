-- The test for a local ambiguity, and what the moves of a list are.
use Rattle.std.proofs.Common.{ℕ, ◌≡◌, ◌⊎◌, inl, inr, Option, Some, None, Bool, true, false, ◌||◌, not, nat_eq, List, []}
use Rattle.std.proofs.Common.{◌∷◌, refl, sym, ◌∙◌, ap, subst, eqb-true}
use Rattle.std.proofs.lemmas.Bool.{eqb-false}
use Rattle.std.specs.List.{filter_map, cons_option}
use Rattle.mbe_semantics.specs.Syntax.Op.{Ops}
use Rattle.mbe_semantics.specs.Readings.Input.{Input}
use Rattle.mbe_semantics.specs.Readings.Reading.{PartialReading, EndsAt}
use Rattle.mbe_semantics.specs.Readings.Steps.{Move, move, next}
use Rattle.mbe_semantics.specs.Matching.Lists.{In, Distinct, NoneAt}
use Rattle.mbe_semantics.specs.Matching.Trace.{trace, before}
use Rattle.mbe_semantics.specs.Matching.Closure.{moves_of, targets, has_ambiguity_with, has_ambiguity}
use Rattle.mbe_semantics.specs.Readings.Ambiguity.{StepsOver, Conflict, Ambiguous}
use Rattle.mbe_semantics.proofs.Traces.{next-after}

filter_step : {A B : Type 0} (h : A → Option B) (y : B) (x : A) (xs : List A) (o : Option B) → h x ≡ o →
    (In y (filter_map h xs) → (z : A) × In z xs × (h z ≡ Some y)) → In y (cons_option o (filter_map h xs))
    → (z : A) × In z (x ∷ xs) × (h z ≡ Some y)
filter_step h y x xs None e f m = let r = f m in (r.0, inr r.1, r.2)
filter_step h y x xs (Some v) e f (inl d) = (x, inl refl, e ∙ ap Some (sym d))
filter_step h y x xs (Some v) e f (inr m) = let r = f m in (r.0, inr r.1, r.2)

pub from_filter : {A B : Type 0} (h : A → Option B) (y : B) (xs : List A) → In y (filter_map h xs)
    → (z : A) × In z xs × (h z ≡ Some y)
from_filter h y [] m = absurd m
from_filter h y (x ∷ xs) m = filter_step h y x xs (h x) refl (λ k. from_filter h y xs k) m

in_cons_option : {B : Type 0} (o : Option B) (y : B) (ys : List B) → In y ys → In y (cons_option o ys)
in_cons_option None y ys m = m
in_cons_option (Some v) y ys m = inr m

pub in_filter : {A B : Type 0} (h : A → Option B) (x : A) (y : B) (xs : List A) → In x xs → h x ≡ Some y
    → In y (filter_map h xs)
in_filter h x y [] m e = absurd m
in_filter h x y (z ∷ xs) (inl d) e = subst (λ o. In y (cons_option o (filter_map h xs))) (sym (ap h (sym d) ∙ e))
    (inl refl)
in_filter h x y (z ∷ xs) (inr m) e = in_cons_option (h z) y (filter_map h xs) (in_filter h x y xs m e)

pub from_targets : (y : PartialReading) (ms : List Move) → In y (targets ms) → (n : ℕ) × (f : Bool) × In (move n f y) ms
from_targets y [] m = absurd m
from_targets y (move n f z ∷ ms) (inl e) = (n, f, inl (ap (λ v. move n f v) e))
from_targets y (move n f z ∷ ms) (inr m) = let r = from_targets y ms m in (r.0, r.1, inr r.2)

pub in_targets : (n : ℕ) (f : Bool) (y : PartialReading) (ms : List Move) → In (move n f y) ms → In y (targets ms)
in_targets n f y [] m = absurd m
in_targets n f y (move k g z ∷ ms) (inl e) = inl (let d : y ≡ z = cc in d)
in_targets n f y (move k g z ∷ ms) (inr m) = inr (in_targets n f y ms m)

or_left : (a b : Bool) → (a || b) ≡ false → a ≡ false
or_left true b e = e
or_left false b e = refl

or_right : (a b : Bool) → (a || b) ≡ false → b ≡ false
or_right true b e = cc
or_right false b e = e

or_cases : (a b : Bool) → (a || b) ≡ true → (a ≡ true) ⊎ (b ≡ true)
or_cases true b e = inl refl
or_cases false b e = inr e

not_false : (b : Bool) → not b ≡ false → b ≡ true
not_false true e = refl
not_false false e = cc

not_true : (b : Bool) → not b ≡ true → b ≡ false
not_true true e = cc
not_true false e = refl

-- no clash: no fragment among several, and one width
pub clear_with : (n : ℕ) (f : Bool) (ms : List Move) → has_ambiguity_with n f ms ≡ false
    → (m : ℕ) (g : Bool) (z : PartialReading)
    → In (move m g z) ms → (f ≡ false) × (g ≡ false) × (n ≡ m)
clear_with n f [] e m g z h = absurd h
clear_with n f (move k b v ∷ ms) e m g z (inl d) =
    let t : (f || b || not (nat_eq n k)) ≡ false = or_left (f || b || not (nat_eq n k)) (has_ambiguity_with n f ms) e in
    let u : (f || b) ≡ false = or_left (f || b) (not (nat_eq n k)) t in
    let w : not (nat_eq n k) ≡ false = or_right (f || b) (not (nat_eq n k)) t in
    let x : m ≡ k = cc in
    let y : g ≡ b = cc in
    (or_left f b u, y ∙ or_right f b u, eqb-true n k (not_false (nat_eq n k) w) ∙ sym x)
clear_with n f (move k b v ∷ ms) e m g z (inr h) =
    clear_with n f ms (or_right (f || b || not (nat_eq n k)) (has_ambiguity_with n f ms) e) m g z h

abbrev Found : ℕ → Bool → List Move → Type 0
Found n f ms = (m : ℕ) × (g : Bool) × (z : PartialReading) × In (move m g z) ms × Conflict n f m g

found_here : (n k : ℕ) (f b : Bool) (v : PartialReading) (ms : List Move) → (f || b || not (nat_eq n k)) ≡ true
    → Found n f (move k b v ∷ ms)
found_here n k f b v ms e = (k, b, v, inl refl, go (or_cases (f || b) (not (nat_eq n k)) e))
  where
    both : ((f ≡ true) ⊎ (b ≡ true)) → Conflict n f k b
    both (inl d) = inl d
    both (inr d) = inr (inl d)

    go : (((f || b) ≡ true) ⊎ (not (nat_eq n k) ≡ true)) → Conflict n f k b
    go (inl d) = both (or_cases f b d)
    go (inr d) = inr (inr (eqb-false n k (not_true (nat_eq n k) d)))

pub clash_with : (n : ℕ) (f : Bool) (ms : List Move) → has_ambiguity_with n f ms ≡ true → Found n f ms
clash_with n f [] e = cc
clash_with n f (move k b v ∷ ms) e =
    elim (or_cases (f || b || not (nat_eq n k)) (has_ambiguity_with n f ms) e) [
      | inl d ↦ found_here n k f b v ms d
      | inr d ↦ let r : Found n f ms = clash_with n f ms d in (r.0, r.1, r.2, inr r.3, r.4)
    ]

no_ambiguity : (n m : ℕ) (f g : Bool) → f ≡ false → g ≡ false → n ≡ m → Conflict n f m g → ⊥
no_ambiguity n m f g a b c (inl e) = let d : true ≡ false = sym e ∙ a in cc
no_ambiguity n m f g a b c (inr (inl e)) = let d : true ≡ false = sym e ∙ b in cc
no_ambiguity n m f g a b c (inr (inr e)) = e c

module _ (i : Input) (pat : Ops) (q : ℕ) where
  -- an ambiguity that the test finds is one
  pub ambiguity_found : (xs : List PartialReading) → ((x : PartialReading) → In x xs → EndsAt i pat q x)
      → Distinct trace xs
      → has_ambiguity (moves_of i q xs) ≡ true → Ambiguous i pat q
  ambiguity_found [] a d e = cc
  ambiguity_found (x ∷ xs) a d e = turn (next i q x) refl e (λ f. ambiguity_found xs (λ z m. a z (inr m)) d.1 f)
    where
      pair : (n : ℕ) (f : Bool) (y : PartialReading) → next i q x ≡ Some (move n f y) → Found n f (moves_of i q xs)
          → Ambiguous i pat q
      pair n f y g r =
          let s : (z : PartialReading) × In z xs × (next i q z ≡ Some (move r.0 r.1 r.2)) =
          from_filter (next i q) (move r.0 r.1 r.2) xs r.3 in
          record {
            one = x;
            other = s.0;
            one_at = a x (inl refl);
            other_at = a s.0 (inr s.1);
            differ = λ t. d.0 s.0 s.1 (ap trace t);
            n = n;
            m = r.0;
            f = f;
            g = r.1;
            one_steps = (y, g);
            other_steps = (r.2, s.2);
            ambiguity = r.4;
          }

      turn : (o : Option Move) → next i q x ≡ o → has_ambiguity (cons_option o (moves_of i q xs)) ≡ true
          → (has_ambiguity (moves_of i q xs) ≡ true → Ambiguous i pat q) → Ambiguous i pat q
      turn None g c f = f c
      turn (Some (move n f y)) g c h = pair n f y g (clash_with n f (moves_of i q xs) c)

  -- and one that is there is found
  pub ambiguity_missed : (xs : List PartialReading) → has_ambiguity (moves_of i q xs) ≡ false → (x y : PartialReading)
      → In x xs → In y xs
      → (x ≡ y → ⊥) →
      (n m : ℕ) (f g : Bool) → StepsOver i q n f x → StepsOver i q m g y → Conflict n f m g → ⊥
  ambiguity_missed [] e x y a b d n m f g s t = absurd a
  ambiguity_missed (h ∷ xs) e x y a b d n m f g s t = turn (next i q h) refl e (λ c. ambiguity_missed xs c x y) a b
    where
      none : (z : PartialReading) → z ≡ h → (k : ℕ) (c : Bool) → StepsOver i q k c z → next i q h ≡ None → ⊥
      none z p k c r u = let v : Some (move k c r.0) ≡ None = sym r.1 ∙ ap (next i q) p ∙ u in cc

      inner : (In x xs → In y xs → (x ≡ y → ⊥) → (n m : ℕ) (f g : Bool) → StepsOver i q n f x → StepsOver i q m g y
          → Conflict n f m g → ⊥) →
          (next i q h ≡ None) → ((x ≡ h) ⊎ In x xs) → ((y ≡ h) ⊎ In y xs) → Conflict n f m g → ⊥
      inner r u (inl p) b' c = none x p n f s u
      inner r u (inr a') (inl p) c = none y p m g t u
      inner r u (inr a') (inr b') c = r a' b' d n m f g s t c

      listed : (z : PartialReading) → In z xs → (k : ℕ) (c : Bool) → (w : StepsOver i q k c z)
          → In (move k c w.0) (moves_of i q xs)
      listed z p k c w = in_filter (next i q) z (move k c w.0) xs p w.1

      first : (n0 : ℕ) (f0 : Bool) (y0 : PartialReading) → next i q h ≡ Some (move n0 f0 y0) → (z : PartialReading) → z
          ≡ h
          → (k : ℕ) (c : Bool) → StepsOver i q k c z → (k ≡ n0) × (c ≡ f0)
      first n0 f0 y0 u z p k c r = let v : Some (move k c r.0) ≡ Some (move n0 f0 y0) =
          sym r.1 ∙ ap (next i q) p ∙ u in (cc, cc)

      outer : (n0 : ℕ) (f0 : Bool) (y0 : PartialReading) → next i q h ≡ Some (move n0 f0 y0)
          → has_ambiguity_with n0 f0 (moves_of i q xs) ≡ false →
          ((x ≡ h) ⊎ In x xs) → ((y ≡ h) ⊎ In y xs) → Conflict n f m g → ⊥
      outer n0 f0 y0 u k (inl p) (inl p') c = d (p ∙ sym p')
      outer n0 f0 y0 u k (inl p) (inr b') c =
          let v = first n0 f0 y0 u x p n f s in
          let w = clear_with n0 f0 (moves_of i q xs) k m g t.0 (listed y b' m g t) in
          no_ambiguity n m f g (v.1 ∙ w.0) w.1 (v.0 ∙ w.2) c
      outer n0 f0 y0 u k (inr a') (inl p) c =
          let v = first n0 f0 y0 u y p m g t in
          let w = clear_with n0 f0 (moves_of i q xs) k n f s.0 (listed x a' n f s) in
          no_ambiguity n m f g w.1 (v.1 ∙ w.0) (sym w.2 ∙ sym v.0) c
      outer n0 f0 y0 u k (inr a') (inr b') c =
          let v = clear_with n0 f0 (moves_of i q xs) k n f s.0 (listed x a' n f s) in
          let w = clear_with n0 f0 (moves_of i q xs) k m g t.0 (listed y b' m g t) in
          no_ambiguity n m f g v.1 w.1 (sym v.2 ∙ w.2) c

      turn : (o : Option Move) → next i q h ≡ o → has_ambiguity (cons_option o (moves_of i q xs)) ≡ false →
          (has_ambiguity (moves_of i q xs) ≡ false → In x xs → In y xs → (x ≡ y → ⊥) → (n m : ℕ) (f g : Bool)
          → StepsOver i q n f x → StepsOver i q m g y → Conflict n f m g → ⊥) →
          ((x ≡ h) ⊎ In x xs) → ((y ≡ h) ⊎ In y xs) → Conflict n f m g → ⊥
      turn None u c r = inner (r c) u
      turn (Some (move n0 f0 y0)) u c r = outer n0 f0 y0 u c

  -- different beginnings go on to different beginnings
  pub targets_distinct : (xs : List PartialReading) → Distinct trace xs → Distinct trace (targets (moves_of i q xs))
  targets_distinct [] d = tt
  targets_distinct (x ∷ xs) d = turn (next i q x) refl (targets_distinct xs d.1)
    where
      none : (n : ℕ) (f : Bool) (y : PartialReading) → next i q x ≡ Some (move n f y)
          → NoneAt trace (trace y) (targets (moves_of i q xs))
      none n f y u v h e =
          let r : (k : ℕ) × (g : Bool) × In (move k g v) (moves_of i q xs) = from_targets v (moves_of i q xs) h in
          let s : (z : PartialReading) × In z xs × (next i q z ≡ Some (move r.0 r.1 v)) =
          from_filter (next i q) (move r.0 r.1 v) xs r.2 in
          d.0 s.0 s.1 (sym (next-after i q n f x y u).0 ∙ ap before e ∙ (next-after i q r.0 r.1 s.0 v s.2).0)

      turn : (o : Option Move) → next i q x ≡ o → Distinct trace (targets (moves_of i q xs))
          → Distinct trace (targets (cons_option o (moves_of i q xs)))
      turn None u r = r
      turn (Some (move n f y)) u r = (none n f y u, r)
