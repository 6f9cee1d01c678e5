-- Where beginnings lead: to readings, and apart.
use Rattle.std.proofs.Common.{ℕ, zero, suc, ◌-◌, ◌≡◌, ◌⊎◌, ◌<◌, inl, inr, Option, Some, None, List, [], ◌∷◌, map, refl}
use Rattle.std.proofs.Common.{sym, ◌∙◌, ap, subst, arith}
use Rattle.mbe_semantics.specs.Syntax.Op.{Ops, no_ops}
use Rattle.mbe_semantics.specs.Readings.Item.{Items}
use Rattle.mbe_semantics.specs.Readings.Input.{Input}
use Rattle.mbe_semantics.specs.Readings.Reading.{PartialReading, partial, offset, start, IsPartialReading, EndsAt}
use Rattle.mbe_semantics.specs.Readings.Reading.{Reading}
use Rattle.mbe_semantics.specs.Readings.Steps.{epsilons, Move, move, next}
use Rattle.mbe_semantics.specs.Matching.States.{state_number}
use Rattle.mbe_semantics.specs.Matching.Lists.{In}
use Rattle.mbe_semantics.specs.Matching.Trace.{trace}
use Rattle.mbe_semantics.specs.Matching.Trace as stories
use Rattle.mbe_semantics.proofs.Parents.{Idles, Moves, From, parents, next-sound}
use Rattle.mbe_semantics.proofs.Traces.{idle-after, next-after}
use Rattle.mbe_laws.proofs.Matching.Forest.{in_left, in_right, in_either}
use Rattle.mbe_laws.proofs.Matching.Sound.{idle-sound}
use Rattle.mbe_matcher.specs.Readings.Divergence.{moved, steps, Leads, IsPrefixOf, DivergeAt, ReadingsDiverge}
use Rattle.mbe_matcher.specs.Readings.States.{state_at, Transition, listed, transitions}
use Rattle.mbe_matcher.proofs.Divergence.Numbers.{named, reached, steps-ways, ways-apart}

-- ---- the steps as a list

pub in-map : {A B : Type 0} (f : A → B) (x : A) (xs : List A) → In x xs → In (f x) (map f xs)
in-map f x [] h = h
in-map f x (y ∷ xs) (inl e) = inl (ap f e)
in-map f x (y ∷ xs) (inr h) = inr (in-map f x xs h)

pub from-map : {A B : Type 0} (f : A → B) (y : B) (xs : List A) → In y (map f xs) → (x : A) × In x xs × (y ≡ f x)
from-map f y [] h = absurd h
from-map f y (x ∷ xs) (inl e) = (x, inl refl, e)
from-map {A} f y (x ∷ xs) (inr h) =
    let r : (z : A) × In z xs × (y ≡ f z) = from-map f y xs h in (r.0, inr r.1, r.2)

-- a step leads to a beginning
pub step-sound : (i : Input) (pat : Ops) (q : ℕ) (x : PartialReading) (s : ℕ × PartialReading) → EndsAt i pat q x
    → In s (steps i q x)
    → EndsAt i pat s.0 s.1
step-sound i pat q x s h m = either (in_either s (map (λ y. (q, y)) (epsilons i q x)) (moved q (next i q x)) m)
  where
    idly : ((y : PartialReading) × In y (epsilons i q x) × ◌≡◌ {A = ℕ × PartialReading} s (q, y)) → EndsAt i pat s.0 s.1
    idly r = subst (λ (v : ℕ × PartialReading). EndsAt i pat v.0 v.1) (sym r.2) (idle-sound i pat q x h r.0 r.1)

    over : (o : Option Move) → next i q x ≡ o → In s (moved q o) → EndsAt i pat s.0 s.1
    over None e n = absurd n
    over (Some (move w f y)) e (inl d) =
        subst (λ (v : ℕ × PartialReading). EndsAt i pat v.0 v.1) (sym d) (next-sound i pat q w f x y h e)
    over (Some (move w f y)) e (inr n) = absurd n

    either : In s (map (λ y. (q, y)) (epsilons i q x)) ⊎ In s (moved q (next i q x)) → EndsAt i pat s.0 s.1
    either (inl a) = idly (from-map (λ (y : PartialReading). (q, y)) s (epsilons i q x) a)
    either (inr b) = over (next i q x) refl b

-- the beginning, with its place
abbrev pub placed : PartialReading → ℕ × PartialReading
placed y = (offset y, y)

-- each beginning but the first comes by a step
idle-step : (i : Input) (x y : PartialReading) → Idles i x y → In (placed y) (steps i (offset x) x)
idle-step i x y h =
    in_left (placed y) (map (λ z. (offset x, z)) (epsilons i (offset x) x)) (moved (offset x) (next i (offset x) x))
    (subst (λ (p : ℕ). In {A = ℕ × PartialReading} (p, y) (map (λ z. (offset x, z)) (epsilons i (offset x) x)))
    (sym h.1)
    (in-map (λ (z : PartialReading). (offset x, z)) y (epsilons i (offset x) x) h.0))

move-step : (i : Input) (x y : PartialReading) → Moves i x y → In (placed y) (steps i (offset x) x)
move-step i x y h =
    in_right (placed y) (map (λ z. (offset x, z)) (epsilons i (offset x) x)) (moved (offset x) (next i (offset x) x))
    (subst (λ (o : Option Move). In (placed y) (moved (offset x) o)) (sym h.2)
    (subst (λ (p : ℕ). In {A = ℕ × PartialReading} (p, y) (moved (offset x) (Some (move h.0 h.1 y)))) (sym h.3)
    (inl refl)))

-- what holds of the first, and goes over from each to the next, holds of all
module _ (i : Input) (pat : Ops) (P : PartialReading → Type 0) (first : P (start pat))
    (more : (x y : PartialReading) → IsPartialReading i pat x → IsPartialReading i pat y → P x
    → In (placed y) (steps i (offset x) x) → P y) where
  by_parent : (y : PartialReading) → IsPartialReading i pat y
      → ((x : PartialReading) → stories.steps (trace x) < stories.steps (trace y) → IsPartialReading i pat x → P x) →
      ((y ≡ start pat) ⊎ From i pat y) → P y
  by_parent y b ih (inl e) = subst P (sym e) first
  by_parent y b ih (inr (x, a, inl s)) =
      let t : stories.steps (trace y) ≡ suc (stories.steps (trace x)) = (idle-after i (offset x) x y s.0).1 in
      more x y a b (ih x (omega arith) a) (idle-step i x y s)
  by_parent y b ih (inr (x, a, inr s)) =
      let t : stories.steps (trace y) ≡ suc (stories.steps (trace x)) =
      (next-after i (offset x) s.0 s.1 x y s.2).1 in
      more x y a b (ih x (omega arith) a) (move-step i x y s)

  by_number : (n : ℕ) (y : PartialReading) → stories.steps (trace y) < n → IsPartialReading i pat y → P y
  by_number zero y l b = absurd (omega arith)
  by_number (suc n) y l b = by_parent y b (λ x m a. by_number n x (omega arith) a) (parents i pat y b)

  pub every : (y : PartialReading) → IsPartialReading i pat y → P y
  every y b = by_number (suc (stories.steps (trace y))) y (omega arith) b

-- ---- two steps

crossed : (q : ℕ) (s t : ℕ × PartialReading) (u v : Transition) → named s ≡ reached q u → named t ≡ reached q v → s.1
    ≡ t.1
    → u.0 ≡ v.0
crossed q s t u v e f g =
    sym (ap (λ (p : ℕ × ℕ). p.0) e) ∙ ap state_number g ∙ ap (λ (p : ℕ × ℕ). p.0) f

-- two steps of a beginning are one step, or lead to different beginnings
pub same-or-apart : (i : Input) (q : ℕ) (x : PartialReading) (a b : ℕ × PartialReading) → In a (steps i q x)
    → In b (steps i q x)
    → (a ≡ b) ⊎ (a.1 ≡ b.1 → ⊥)
same-or-apart i q x a b m n = go (steps i q x) (transitions i q (state_at x) (state_number x - 1)) (steps-ways i q x)
    (ways-apart i q x) m n
  where
    go : (xs : List (ℕ × PartialReading)) (o : Option Transition × Option Transition) → map named xs
        ≡ map (reached q) (listed o) →
        ((u v : Transition) → o ≡ (Some u, Some v) → u.0 ≡ v.0 → ⊥) → In a xs → In b xs → (a ≡ b) ⊎ (a.1 ≡ b.1 → ⊥)
    go [] o e d k l = absurd k
    go (s ∷ xs) o e d (inl k) (inl l) = inl (k ∙ sym l)
    go (s ∷ t ∷ []) (Some u, Some v) e d (inl k) (inr (inl l)) =
        inr (λ f. d u v refl (crossed q s t u v (let h : named s ≡ reached q u = cc in h)
        (let h : named t ≡ reached q v = cc in h) (ap (λ (p : ℕ × PartialReading). p.1) (sym k) ∙ f
        ∙ ap (λ (p : ℕ × PartialReading). p.1) l)))
    go (s ∷ t ∷ []) (Some u, Some v) e d (inr (inl k)) (inl l) =
        inr (λ f. d u v refl (crossed q s t u v (let h : named s ≡ reached q u = cc in h)
        (let h : named t ≡ reached q v = cc in h) (ap (λ (p : ℕ × PartialReading). p.1) (sym l) ∙ sym f
        ∙ ap (λ (p : ℕ × PartialReading). p.1) k)))
    go (s ∷ t ∷ []) o e d (inr (inl k)) (inr (inl l)) = inl (k ∙ sym l)
    go (s ∷ t ∷ []) (Some u, Some v) e d (inl k) (inr (inr l)) = absurd l
    go (s ∷ t ∷ []) (Some u, Some v) e d (inr (inl k)) (inr (inr l)) = absurd l
    go (s ∷ t ∷ []) (Some u, Some v) e d (inr (inr k)) l = absurd k
    go (s ∷ t ∷ w ∷ xs) (Some u, Some v) e d k l = cc
    go (s ∷ t ∷ xs) (None, Some v) e d k l = cc
    go (s ∷ t ∷ xs) (Some u, None) e d k l = cc
    go (s ∷ t ∷ xs) (None, None) e d k l = cc
    go (s ∷ []) o e d (inr k) l = absurd k
    go (s ∷ []) o e d k (inr l) = absurd l

-- ---- readings

-- a beginning of a reading comes from the start
from_start : (i : Input) (pat : Ops) (len : ℕ) (is : Items) (y : PartialReading) → IsPartialReading i pat y
    → IsPrefixOf i len is (offset y) y → IsPrefixOf i len is 0 (start pat)
from_start i pat len is = every i pat (λ y. IsPrefixOf i len is (offset y) y → IsPrefixOf i len is 0 (start pat))
    (λ b. b)
    (λ x y a b f m r. f (suc r.0, (placed y, m, r.1)))

reading_starts : (i : Input) (pat : Ops) (len : ℕ) (is : Items) → Reading i pat len is
    → IsPrefixOf i len is 0 (start pat)
reading_starts i pat len is r = from_start i pat len is (partial no_ops is []) (tt, r.0)
    (0, ((let e : offset (partial no_ops is []) ≡ len = omega (arith, r.1) in e), refl))

no_steps : (i : Input) (q : ℕ) (is : Items) (x : PartialReading) (s : ℕ × PartialReading) → x ≡ partial no_ops is []
    → In s (steps i q x)
    → ⊥
no_steps i q is x s e m = subst (λ v. In s (steps i q v)) e m

apart : (i : Input) (pat : Ops) (len : ℕ) (is js : Items) → (is ≡ js → ⊥) → (n m q : ℕ) (x : PartialReading)
    → EndsAt i pat q x
    → Leads n i len is q x → Leads m i len js q x → (p : ℕ) × DivergeAt i pat len p
apart i pat len is js d zero zero q x h a b =
    absurd (d (let e : partial no_ops is [] ≡ partial no_ops js [] = sym a.1 ∙ b.1 in cc))
apart i pat len is js d zero (suc m) q x h a b = absurd (no_steps i q is x b.0 a.1 b.1)
apart i pat len is js d (suc n) zero q x h a b = absurd (no_steps i q js x a.0 b.1 a.1)
apart i pat len is js d (suc n) (suc m) q x h a b =
    elim (same-or-apart i q x a.0 b.0 a.1 b.1) [
      | inl e ↦ apart i pat len is js d n m a.0.0 a.0.1 (step-sound i pat q x a.0 h a.1) a.2
          (subst (λ (v : ℕ × PartialReading). Leads m i len js v.0 v.1) (sym e) b.2)
      | inr f ↦ (
        q,
        record {
          before = x;
          here = h;
          one = a.0;
          other = b.0;
          one_next = a.1;
          other_next = b.1;
          differ = f;
          reading = is;
          another = js;
          one_is = (n, a.2);
          other_is = (m, b.2);
        },
      )
    ]

pub readings-part : ReadingsDiverge
readings-part i pat len is js a b d =
    let r : IsPrefixOf i len is 0 (start pat) = reading_starts i pat len is a in
    let s : IsPrefixOf i len js 0 (start pat) = reading_starts i pat len js b in
    apart i pat len is js d r.0 s.0 0 (start pat) ((tt, refl), refl) r.1 s.1
