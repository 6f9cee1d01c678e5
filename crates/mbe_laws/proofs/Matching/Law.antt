-- The law: what is held at a place are the beginnings that end there, each once.
use Rattle.std.proofs.Common.{ℕ, zero, suc, ◌≡◌, ◌⊎◌, ◌<◌, ◌≤◌, inl, inr, Some, Bool, true, List, [], ◌∷◌, refl, sym}
use Rattle.std.proofs.Common.{◌∙◌, subst, arith, append-nil}
use Rattle.mbe_semantics.specs.Syntax.Op.{Ops}
use Rattle.mbe_semantics.specs.Readings.Input.{Input}
use Rattle.mbe_semantics.specs.Readings.Reading.{PartialReading, offset, IsPartialReading, EndsAt, start}
use Rattle.mbe_semantics.specs.Readings.Steps.{epsilons, move, next, tree}
use Rattle.mbe_semantics.specs.Matching.Lists.{In, Distinct}
use Rattle.mbe_semantics.specs.Matching.Trace.{trace, before, fresh, steps, is_positive}
use Rattle.mbe_semantics.specs.Syntax.Nullable.{Checked}
use Rattle.mbe_semantics.specs.Laws.Lawful.{Lawful}
use Rattle.mbe_semantics.specs.Matching.ThreadModel.{rank}
use Rattle.mbe_semantics.specs.Matching.Closure.{whole, closure}
use Rattle.mbe_semantics.specs.Readings.Ambiguity.{Ambiguous}
use Rattle.mbe_laws.proofs.Matching.Sound.{idle-sound}
use Rattle.mbe_semantics.proofs.Parents.{Idles, Moves, From, parents}
use Rattle.mbe_semantics.proofs.Traces.{idle-after, next-after, idle-distinct}
use Rattle.mbe_laws.proofs.Matching.Forest.{from_flat, in_flat, root_in, forest-distinct, tree-distinct, tree-closed}
use Rattle.mbe_laws.proofs.Matching.Moves.{next-takes}
use Rattle.mbe_laws.proofs.Matching.Rank.{idle-falls}

-- a beginning with which a place begins: the first of all, or one that has just taken a token
abbrev pub Root : Ops → PartialReading → Type 0
Root pat y = (fresh (trace y) ≡ true) ⊎ (y ≡ start pat)

-- what is known where the matcher comes to q with the beginnings xs
pub record Inv (i : Input) (pat : Ops) (q : ℕ) (xs : List PartialReading) : Type 0 where
  pub sound : (x : PartialReading) → In x xs → EndsAt i pat q x
  pub once : Distinct trace xs
  pub roots : ((x : PartialReading) → In x xs → fresh (trace x) ≡ true) ⊎ (xs ≡ start pat ∷ [])
  pub all : (y : PartialReading) → EndsAt i pat q y → Root pat y → In y xs
  pub jump : (x y : PartialReading) → IsPartialReading i pat x → Moves i x y → offset x < q → offset y ≤ q
  pub some : (x : PartialReading) × In x xs
  pub calm : (p : ℕ) → p < q → Ambiguous i pat p → ⊥

module _ (i : Input) (pat : Ops) (len : ℕ) (lawful : Lawful i len) (checked : Checked pat) where
  -- induction on the number of steps
  pub by_steps : (P : PartialReading → Type 0)
      → ((y : PartialReading) → ((x : PartialReading) → steps (trace x) < steps (trace y) → P x) → P y)
      → (y : PartialReading) → P y
  by_steps P f y = go (suc (steps (trace y))) y (omega arith)
    where
      go : (n : ℕ) (y : PartialReading) → steps (trace y) < n → P y
      go zero y l = absurd (omega arith)
      go (suc n) y l = f y (λ x m. go n x (omega arith))

  tree_sound : (q n : ℕ) (x : PartialReading) → EndsAt i pat q x → (y : PartialReading) → In y (tree (epsilons i q) n x)
      → EndsAt i pat q y
  unfolding tree
  tree_sound q zero x a y h = absurd h
  tree_sound q (suc n) x a y (inl e) = subst (EndsAt i pat q) (sym e) a
  tree_sound q (suc n) x a y (inr h) =
      let r : (z : PartialReading) × In z (epsilons i q x) × In y (tree (epsilons i q) n z) =
      from_flat (tree (epsilons i q) n) y (epsilons i q x) h in
      tree_sound q n r.0 (idle-sound i pat q x a r.0 r.1) y r.2

  -- first part: what is held is a beginning that ends here
  pub held-sound : (q : ℕ) (xs : List PartialReading) → Inv i pat q xs → (y : PartialReading) → In y (closure i q xs)
      → EndsAt i pat q y
  held-sound q xs v y h =
      let r : (x : PartialReading) × In x xs × In y (whole i q x) = from_flat (whole i q) y xs h in
      tree_sound q (suc (rank q r.0)) r.0 (v.sound r.0 r.1) y r.2

  -- second part: no two are the same
  pub held-once : (q : ℕ) (xs : List PartialReading) → Inv i pat q xs → Distinct trace (closure i q xs)
  held-once q xs v = either v.roots
    where
      single : Distinct trace (closure i q (start pat ∷ []))
      single = simp append-nil (tree-distinct (epsilons i q) trace before steps fresh (idle-after i q)
          (idle-distinct i q)
          (suc (rank q (start pat))) (start pat))

      either : (((x : PartialReading) → In x xs → fresh (trace x) ≡ true) ⊎ (xs ≡ start pat ∷ []))
          → Distinct trace (closure i q xs)
      either (inl f) = forest-distinct (epsilons i q) trace before steps fresh (idle-after i q) (idle-distinct i q)
          (λ x. suc (rank q x)) xs f v.once
      either (inr e) = subst (λ zs. Distinct trace (closure i q zs)) (sym e) single

  pub closed_root : (q : ℕ) (xs : List PartialReading) (y : PartialReading) → In y xs → In y (closure i q xs)
  closed_root q xs y m = in_flat (whole i q) y y xs m (root_in (epsilons i q) (suc (rank q y)) y (omega arith))

  closed_closed : (q : ℕ) (xs : List PartialReading) → Inv i pat q xs → (y z : PartialReading) → In y (closure i q xs)
      → In z (epsilons i q y) → In z (closure i q xs)
  closed_closed q xs v y z h m =
      let r : (x : PartialReading) × In x xs × In y (whole i q x) = from_flat (whole i q) y xs h in
      in_flat (whole i q) z r.0 xs r.1
      (tree-closed (epsilons i q) (EndsAt i pat q) (rank q) (idle-falls i pat q lawful checked) (suc (rank q r.0)) r.0
      (v.sound r.0 r.1) (omega arith) y z r.2 m)

  -- a step over tokens takes some
  pub moves_some : (q n : ℕ) (f : Bool) (x y : PartialReading) → next i q x ≡ Some (move n f y) → 0 < n
  moves_some q n f x y e = (next-takes i len q n f x y lawful e).0

  pub moves_fresh : (x y : PartialReading) → Moves i x y → fresh (trace y) ≡ true
  moves_fresh x y m = (next-after i (offset x) m.0 m.1 x y m.2).2 ∙ positive m.0 (moves_some (offset x) m.0 m.1 x y m.2)
    where
      positive : (n : ℕ) → 0 < n → is_positive n ≡ true
      positive zero l = absurd (omega arith)
      positive (suc n) l = refl

  pub moves_steps : (x y : PartialReading) → Moves i x y → steps (trace x) < steps (trace y)
  moves_steps x y m = let e : steps (trace y) ≡ suc (steps (trace x)) =
      (next-after i (offset x) m.0 m.1 x y m.2).1 in omega arith

  pub idles_steps : (x y : PartialReading) → Idles i x y → steps (trace x) < steps (trace y)
  idles_steps x y m = let e : steps (trace y) ≡ suc (steps (trace x)) =
      (idle-after i (offset x) x y m.0).1 in omega arith

  -- third part: none that ends here is missing
  pub held-all : (q : ℕ) (xs : List PartialReading) → Inv i pat q xs → (y : PartialReading) → EndsAt i pat q y
      → In y (closure i q xs)
  held-all q xs v = by_steps (λ y. EndsAt i pat q y → In y (closure i q xs)) turn
    where
      by_parent : (y : PartialReading) → ((x : PartialReading) → steps (trace x) < steps (trace y) → EndsAt i pat q x
          → In x (closure i q xs)) → EndsAt i pat q y →
          ((y ≡ start pat) ⊎ From i pat y) → In y (closure i q xs)
      by_parent y ih a (inl e) = closed_root q xs y (v.all y a (inr e))
      by_parent y ih a (inr (x, b, inl s)) =
          let e : offset x ≡ q = sym s.1 ∙ a.1 in
          closed_closed q xs v x y (ih x (idles_steps x y s) (b, e)) (subst (λ p. In y (epsilons i p x)) e s.0)
      by_parent y ih a (inr (x, b, inr m)) = closed_root q xs y (v.all y a (inl (moves_fresh x y m)))

      turn : (y : PartialReading) → ((x : PartialReading) → steps (trace x) < steps (trace y) → EndsAt i pat q x
          → In x (closure i q xs))
          → EndsAt i pat q y → In y (closure i q xs)
      turn y ih a = by_parent y ih a (parents i pat y a.0)
