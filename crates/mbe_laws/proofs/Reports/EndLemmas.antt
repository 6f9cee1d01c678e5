-- The first and the last of each dot.
use Rattle.std.proofs.Common.{ℕ, ◌≡◌, ◌<◌, inl, inr, Option, Some, None, Bool, true, false, List, [], ◌∷◌, ◌++◌, map}
use Rattle.std.proofs.Common.{reverse, refl, sym, ◌∙◌, ap, subst, arith}
use Rattle.std.specs.Prelude.{nat_lt}
use Rattle.std.specs.List.{flat_map}
use Rattle.std.proofs.lemmas.Bool.{lt-ltb}
use Rattle.std.proofs.lemmas.List.{reverse-append, reverse-reverse, map-append}
use Rattle.std.proofs.lemmas.Grind.{flat_map-append}
use Rattle.mbe_tt.specs.Trees.Tree.{flat_len}
use Rattle.mbe_semantics.specs.Syntax.Op.{Ops}
use Rattle.mbe_semantics.specs.Readings.Input.{Input, input_of}
use Rattle.mbe_semantics.specs.Readings.Reading.{PartialReading, IsPartialReading, EndsAt}
use Rattle.mbe_semantics.specs.Readings.Steps.{Move, move, next}
use Rattle.mbe_semantics.specs.Syntax.Nullable.{Checked}
use Rattle.mbe_semantics.specs.Laws.Lawful.{Lawful}
use Rattle.mbe_semantics.specs.Matching.Lists.{In}
use Rattle.mbe_semantics.specs.Matching.Closure.{whole, closure, moves_of, targets}
use Rattle.mbe_laws.proofs.Matching.Forest.{in_left, in_right, from_flat, in_flat}
use Rattle.mbe_semantics.proofs.InputLemmas.{lawful_input}
use Rattle.mbe_semantics.specs.Matching.States.{state_number}
use Rattle.mbe_laws.specs.Bounded.ClosureTwoEach.{cons_if, times, first_of_each_key}
use Rattle.mbe_laws.specs.Reports.Ends.{firsts, lasts, first_if, first_that, reversed_targets, EndsPreserved, EndsLaw}
use Rattle.mbe_laws.proofs.States.Sift.{times_other, from_sift, sifted_first}
use Rattle.mbe_laws.proofs.States.States.{same-dot, led_to, onward, onward-alike, targets-onward, whole-alike}

-- ---- the first that passes

module _ (Good : PartialReading → Type 0) (p : PartialReading → Bool)
    (alike : (x y : PartialReading) → Good x → Good y → state_number x ≡ state_number y → p x ≡ p y) where
  pub first_sift : (m : ℕ) → 0 < m → (s : List ℕ) (xs : List PartialReading) → ((x : PartialReading) → In x xs → Good x)
      → ((x : PartialReading) → Good x → p x ≡ true → times (state_number x) s ≡ 0) →
      first_that p (first_of_each_key state_number m s xs) ≡ first_that p xs
  first_sift m some s [] g n = refl
  first_sift m some s (x ∷ xs) g n =
      go (p x) refl (λ o. first_sift m some (state_number x ∷ s) xs (λ y h. g y (inr h)) o)
    where
      l : List PartialReading
      l = first_of_each_key state_number m (state_number x ∷ s) xs

      drop : (b : Bool) → p x ≡ false → first_that p (cons_if b x l) ≡ first_that p l
      drop true e = ap (λ c. first_if c x (first_that p l)) e
      drop false e = refl

      other : p x ≡ false → (y : PartialReading) → Good y → p y ≡ true → times (state_number y) (state_number x ∷ s) ≡ 0
      other e y h f = times_other (state_number y) (state_number x) s
          (λ d. let c : true ≡ false = sym f ∙ alike y x h (g x (inl refl)) d ∙ e in cc) ∙ n y h f

      go : (b : Bool) → p x ≡ b → (((y : PartialReading) → Good y → p y ≡ true
          → times (state_number y) (state_number x ∷ s) ≡ 0)
          → first_that p l ≡ first_that p xs) →
          first_that p (cons_if (nat_lt (times (state_number x) s) m) x l) ≡ first_if b x (first_that p xs)
      go true e r =
          ap (λ b. first_that p (cons_if b x l))
          (lt-ltb (times (state_number x) s) m (let h : times (state_number x) s
          ≡ 0 = n x (g x (inl refl)) e in omega (arith, h, some)))
          ∙ ap (λ b. first_if b x (first_that p l)) e
      go false e r = drop (nat_lt (times (state_number x) s) m) e ∙ r (other e)

-- ---- turned lists

pub reverse_flat : (f : PartialReading → List PartialReading) (xs : List PartialReading)
    → reverse (flat_map f xs) ≡ flat_map (λ x. reverse (f x)) (reverse xs)
reverse_flat f [] = refl
reverse_flat f (x ∷ xs) =
    reverse-append (f x) (flat_map f xs)
    ∙ ap (λ l. l ++ reverse (f x)) (reverse_flat f xs)
    ∙ sym (ap (flat_map (λ y. reverse (f y))) (reverse-append (x ∷ []) xs)
    ∙ flat_map-append (λ y. reverse (f y)) (reverse xs) (x ∷ [])
    ∙ ap (λ l. flat_map (λ y. reverse (f y)) (reverse xs) ++ l) (append_none (reverse (f x))))
  where
    append_none : (l : List PartialReading) → l ++ [] ≡ l
    append_none [] = refl
    append_none (y ∷ l) = ap (λ v. y ∷ v) (append_none l)

flat_same : (f g : PartialReading → List PartialReading) (xs : List PartialReading) → ((x : PartialReading) → f x ≡ g x)
    → flat_map f xs ≡ flat_map g xs
flat_same f g [] e = refl
flat_same f g (x ∷ xs) e = rw (e x, flat_same f g xs e) refl

reverse_led : (o : Option Move) → reverse (led_to o) ≡ led_to o
reverse_led None = refl
reverse_led (Some (move n f y)) = refl

pub turned_is : (i : Input) (q : ℕ) (ys : List PartialReading) → reversed_targets i q ys
    ≡ flat_map (onward i q) (reverse ys)
turned_is i q ys =
    ap reverse (targets-onward i q ys) ∙ reverse_flat (onward i q) ys
    ∙ flat_same (λ x. reverse (onward i q x)) (onward i q) (reverse ys) (λ x. reverse_led (next i q x))

pub numbers_reverse : (xs : List PartialReading) → map state_number (reverse xs) ≡ reverse (map state_number xs)
numbers_reverse [] = refl
numbers_reverse (x ∷ xs) =
    ap (map state_number) (reverse-append (x ∷ []) xs) ∙ map-append state_number (reverse xs) (x ∷ [])
    ∙ ap (λ l. l ++ (state_number x ∷ [])) (numbers_reverse xs)
    ∙ sym (reverse-append (state_number x ∷ []) (map state_number xs))

pub in_reverse : (x : PartialReading) (xs : List PartialReading) → In x xs → In x (reverse xs)
in_reverse x [] h = h
in_reverse x (y ∷ xs) (inl e) = subst (λ l. In x l) (sym (reverse-append (y ∷ []) xs))
    (in_right x (reverse xs) (y ∷ []) (inl e))
in_reverse x (y ∷ xs) (inr m) = subst (λ l. In x l) (sym (reverse-append (y ∷ []) xs))
    (in_left x (reverse xs) (y ∷ []) (in_reverse x xs m))

pub from_reverse : (x : PartialReading) (xs : List PartialReading) → In x (reverse xs) → In x xs
from_reverse x xs h = subst (λ l. In x l) (reverse-reverse xs) (in_reverse x (reverse xs) h)

module _ (i : Input) (pat : Ops) (len : ℕ) (lawful : Lawful i len) (checked : Checked pat) (q m : ℕ)
    (ys : List PartialReading)
    (here : (y : PartialReading) → In y ys → EndsAt i pat q y)
    (there : (z : PartialReading) → In z (targets (moves_of i q ys)) → EndsAt i pat m z) where
  All : ℕ → List PartialReading → Type 0
  All p xs = (x : PartialReading) → In x xs → EndsAt i pat p x

  -- of lists that have the same first
  closed_firsts : (us ws : List PartialReading) → ((x : PartialReading) → In x us → EndsAt i pat m x)
      → ((x : PartialReading) → In x ws → EndsAt i pat m x) → firsts us ≡ firsts ws → firsts (closure i m us)
      ≡ firsts (closure i m ws)
  closed_firsts us ws a b e =
      sym (sifted_first state_number 1 (whole i m) (EndsAt i pat m)
      (λ x y c d f. whole-alike i pat len lawful checked m x y c d f) us a)
      ∙ ap (λ l. firsts (closure i m l)) e
      ∙ sifted_first state_number 1 (whole i m) (EndsAt i pat m)
      (λ x y c d f. whole-alike i pat len lawful checked m x y c d f) ws b

  turned_whole : PartialReading → List PartialReading
  turned_whole x = reverse (whole i m x)

  turned_alike : (x y : PartialReading) → EndsAt i pat m x → EndsAt i pat m y → state_number x ≡ state_number y
      → map state_number (turned_whole x) ≡ map state_number (turned_whole y)
  unfolding turned_whole
  turned_alike x y a b e =
      numbers_reverse (whole i m x) ∙ ap reverse (whole-alike i pat len lawful checked m x y a b e)
      ∙ sym (numbers_reverse (whole i m y))

  closed_lasts : (us ws : List PartialReading) → ((x : PartialReading) → In x us → EndsAt i pat m x)
      → ((x : PartialReading) → In x ws → EndsAt i pat m x) → firsts (reverse us) ≡ firsts (reverse ws)
      → lasts (closure i m us) ≡ lasts (closure i m ws)
  unfolding turned_whole
  closed_lasts us ws a b e =
      ap reverse (ap firsts (reverse_flat (whole i m) us)
      ∙ sym (sifted_first state_number 1 turned_whole (EndsAt i pat m) turned_alike (reverse us)
      (λ x h. a x (from_reverse x us h)))
      ∙ ap (λ l. firsts (flat_map turned_whole l)) e
      ∙ sifted_first state_number 1 turned_whole (EndsAt i pat m) turned_alike (reverse ws)
      (λ x h. b x (from_reverse x ws h))
      ∙ sym (ap firsts (reverse_flat (whole i m) ws)))

  onward_firsts : (xs : List PartialReading) → ((x : PartialReading) → In x xs → EndsAt i pat q x)
      → firsts (flat_map (onward i q) (firsts xs)) ≡ firsts (flat_map (onward i q) xs)
  onward_firsts xs a =
      sifted_first state_number 1 (onward i q) (EndsAt i pat q) (λ x y c d f. onward-alike i pat q x y c d f)
      xs a

  -- what comes of some comes of all
  part : (us ws : List PartialReading) → ((x : PartialReading) → In x us → In x ws) → (z : PartialReading)
      → In z (flat_map (onward i q) us) → In z (flat_map (onward i q) ws)
  part us ws f z h = let r : (x : PartialReading) × In x us × In z (onward i q x) =
      from_flat (onward i q) z us h in in_flat (onward i q) z r.0 ws (f r.0 r.1) r.2

  pub led_at : (us : List PartialReading) → ((x : PartialReading) → In x us → In x ys) → (z : PartialReading)
      → In z (reversed_targets i q us)
      → EndsAt i pat m z
  led_at us f z h =
      there z (subst (In z) (sym (targets-onward i q ys))
      (part (reverse us) ys (λ x k. f x (from_reverse x us k)) z (subst (In z) (turned_is i q us) h)))

  pub in_firsts : (x : PartialReading) (xs : List PartialReading) → In x (firsts xs) → In x xs
  in_firsts x xs h = from_sift state_number 1 [] xs x h

  pub in_lasts : (x : PartialReading) (xs : List PartialReading) → In x (lasts xs) → In x xs
  in_lasts x xs h = from_reverse x xs (in_firsts x (reverse xs) (from_reverse x (firsts (reverse xs)) h))

  pub first_goes : firsts (closure i m (reversed_targets i q (lasts ys)))
      ≡ firsts (closure i m (reversed_targets i q ys))
  first_goes =
      closed_firsts (reversed_targets i q (lasts ys)) (reversed_targets i q ys)
      (led_at (lasts ys) (λ x h. in_lasts x ys h))
      (led_at ys (λ x h. h))
      (ap firsts (turned_is i q (lasts ys) ∙ ap (flat_map (onward i q)) (reverse-reverse (firsts (reverse ys))))
      ∙ onward_firsts (reverse ys) (λ x h. here x (from_reverse x ys h))
      ∙ sym (ap firsts (turned_is i q ys)))

  pub last_goes : lasts (closure i m (reversed_targets i q (firsts ys))) ≡ lasts (closure i m (reversed_targets i q ys))
  last_goes =
      closed_lasts (reversed_targets i q (firsts ys)) (reversed_targets i q ys)
      (led_at (firsts ys) (λ x h. in_firsts x ys h))
      (led_at ys (λ x h. h))
      (ap firsts (reverse-reverse (targets (moves_of i q (firsts ys))) ∙ targets-onward i q (firsts ys))
      ∙ onward_firsts ys here
      ∙ sym (ap firsts (reverse-reverse (targets (moves_of i q ys)) ∙ targets-onward i q ys)))

pub ends_law : EndsLaw
ends_law g pat argument w k q m ys a b = record {
  first = first_goes (input_of g argument) pat (flat_len argument) (lawful_input g argument w) k q m ys a b;
  last = last_goes (input_of g argument) pat (flat_len argument) (lawful_input g argument w) k q m ys a b;
}

pub ends_preserved : EndsPreserved
ends_preserved = record {
  first = λ i pat p xs g a.
      first_sift (IsPartialReading i pat) p (λ x y c d e. a x y (same-dot i i pat x y c d e)) 1 (omega arith) [] xs g
      (λ x h e. refl);
  last = λ i pat p xs g a.
      ap (first_that p) (reverse-reverse (firsts (reverse xs)))
      ∙ first_sift (IsPartialReading i pat) p (λ x y c d e. a x y (same-dot i i pat x y c d e)) 1 (omega arith) []
      (reverse xs)
      (λ x h. g x (from_reverse x xs h)) (λ x h e. refl);
}
