-- The program's loop over the stack at a place.
use Rattle.std.proofs.Common.{ℕ, zero, suc, ◌+◌, ◌≡◌, ◌<◌, ◌≤◌, inl, inr, Bool, true, false, List, [], ◌∷◌, ◌++◌, map}
use Rattle.std.proofs.Common.{length, refl, sym, ◌∙◌, ap, subst, arith, append_assoc, append-nil}
use Rattle.std.specs.Prelude.{nat_lt}
use Rattle.std.proofs.lemmas.Bool.{lt-ltb, le-ltb}
use Rattle.std.proofs.lemmas.List.{map-append}
use Rattle.mbe_semantics.specs.Syntax.Op.{Ops}
use Rattle.mbe_semantics.specs.Readings.Input.{Input}
use Rattle.mbe_semantics.specs.Readings.Reading.{PartialReading, EndsAt}
use Rattle.mbe_semantics.specs.Readings.Steps.{epsilons}
use Rattle.mbe_semantics.specs.Matching.Lists.{In}
use Rattle.mbe_semantics.specs.Matching.ThreadModel.{ThreadModel, erase, epsilons_of}
use Rattle.mbe_laws.proofs.Matching.Forest.{in_either}
use Rattle.mbe_laws.proofs.Matching.Sound.{idle-sound}
use Rattle.mbe_laws.proofs.Matching.ThreadModels.{erase_epsilon}
use Rattle.mbe_semantics.specs.Matching.States.{state_count, state_number, thread_state}
use Rattle.mbe_laws.specs.Bounded.ClosureTwoEach.{cons_if, append_if, times, walk, turns}
use Rattle.mbe_laws.specs.Loop.StackClosure.{kept}
use Rattle.mbe_laws.proofs.States.Sift.{room, room_taken}
use Rattle.mbe_laws.proofs.States.Walk.{len_append}
use Rattle.mbe_laws.proofs.States.States.{number-within}
use Rattle.mbe_laws.proofs.Matching.ThreadModels.{epsilon_short}
use Rattle.mbe_laws.proofs.Run.BoundedRun.{room_all}
use Rattle.mbe_laws.proofs.Loop.BoundedOffsets.{same_number}

-- what is still to do: it falls at each turn
abbrev pub left_over : ℕ → List ℕ → List ThreadModel → ℕ
left_over d seen stack = length stack + (room state_number 2 d seen + room state_number 2 d seen)

-- what went out, and what the stack will still give, are the whole
pub record Keeps (i : Input) (pat : Ops) (q : ℕ) (all stack : List ThreadModel) (seen : List ℕ)
    (out : List ThreadModel) : Type 0 where
  pub ys : List PartialReading
  pub sound : (y : PartialReading) → In y ys → EndsAt i pat q y
  pub same : map erase ys ≡ stack
  pub n : ℕ
  pub enough : left_over (state_count pat) seen stack < n
  pub total : out ++ walk (epsilons_of i q) thread_state 2 n seen stack ≡ all

module _ (i : Input) (pat : Ops) (q : ℕ) where
  pub keeps_start : (xs : List PartialReading) (thread_stack : List ThreadModel)
      → ((x : PartialReading) → In x xs → EndsAt i pat q x)
      → map erase xs ≡ thread_stack → Keeps i pat q (kept i (state_count pat) q thread_stack) thread_stack [] []
  keeps_start xs thread_stack a e = record {
    ys = xs;
    sound = a;
    same = e;
    n = turns (length thread_stack) (state_count pat);
    enough = (let r : room state_number 2 (state_count pat) []
        ≡ state_count pat + state_count pat = room_all (state_count pat) in omega (arith, r));
    total = refl;
  }

  pub keeps_end : (all : List ThreadModel) (seen : List ℕ) (out : List ThreadModel) → Keeps i pat q all [] seen out
      → out ≡ all
  unfolding walk
  keeps_end all seen out k = go k.n k.total
    where
      go : (n : ℕ) → out ++ walk (epsilons_of i q) thread_state 2 n seen [] ≡ all → out ≡ all
      go zero e = sym (append-nil out) ∙ e
      go (suc n) e = sym (append-nil out) ∙ e

  -- one turn, by the test
  turn : (n : ℕ) (seen : List ℕ) (o : ThreadModel) (stack : List ThreadModel) (b : Bool)
      → nat_lt (times (thread_state o) seen) 2 ≡ b →
      walk (epsilons_of i q) thread_state 2 (suc n) seen (o ∷ stack)
      ≡ cons_if b o (walk (epsilons_of i q) thread_state 2 n (cons_if b (thread_state o) seen)
      (append_if b (epsilons_of i q o) stack))
  unfolding walk
  turn n seen o stack b e =
      ap (λ c. cons_if c o (walk (epsilons_of i q) thread_state 2 n (cons_if c (thread_state o) seen)
      (append_if c (epsilons_of i q o) stack))) e

  some_turn : (n m : ℕ) → m < n → (k : ℕ) × (n ≡ suc k)
  some_turn zero m l = absurd (omega (arith, l))
  some_turn (suc n) m l = (n, refl)

  module _ (all : List ThreadModel) (seen : List ℕ) (out : List ThreadModel) (o : ThreadModel)
      (stack : List ThreadModel)
      (k : Keeps i pat q all (o ∷ stack) seen out) where
    top : (x : PartialReading) × (ys : List PartialReading) × (k.ys ≡ x ∷ ys) × (erase x ≡ o) × (map erase ys ≡ stack)
    top = go k.ys k.same
      where
        go : (ys : List PartialReading) → map erase ys ≡ o ∷ stack
            → (x : PartialReading) × (zs : List PartialReading) × (ys ≡ x ∷ zs) × (erase x ≡ o) × (map erase zs ≡ stack)
        go [] e = cc
        go (x ∷ zs) e = let f : erase x ≡ o = cc in let g : map erase zs ≡ stack = cc in (x, zs, refl, f, g)

    top_at : EndsAt i pat q (top.0)
    top_at = k.sound top.0 (subst (In top.0) (sym top.2) (inl refl))

    rest_at : (y : PartialReading) → In y (top.1) → EndsAt i pat q y
    rest_at y m = k.sound y (subst (In y) (sym top.2) (inr m))

    -- the number is a place in the table
    pub keeps_number : (0 < thread_state o) × (thread_state o ≤ state_count pat)
    keeps_number = subst (λ v. (0 < v) × (v ≤ state_count pat)) (sym (same_number top.0) ∙ ap thread_state top.3)
        (number-within i pat top.0 (top_at).0)

    -- seen twice: dropped
    pub keeps_drop : 2 ≤ times (thread_state o) seen
        → Keeps i pat q all stack seen out
        × (left_over (state_count pat) seen stack < left_over (state_count pat) seen (o ∷ stack))
    keeps_drop l =
        let r : (m : ℕ) × (k.n ≡ suc m) = some_turn k.n (left_over (state_count pat) seen (o ∷ stack)) k.enough in
        let e : k.n ≡ suc r.0 = r.1 in
        let g = k.enough in (
          record {
            ys = top.1;
            sound = rest_at;
            same = top.4;
            n = r.0;
            enough = omega (arith, g, e);
            total =
                ap (λ l. out ++ l) (sym (ap (λ n. walk (epsilons_of i q) thread_state 2 n seen (o ∷ stack)) e
                ∙ turn r.0 seen o stack false (le-ltb (times (thread_state o) seen) 2 l)))
                ∙ k.total;
          },
          omega arith,
        )

    -- else it goes out, and what comes of it goes upon the stack
    pub keeps_take : times (thread_state o) seen < 2 →
        Keeps i pat q all (epsilons_of i q o ++ stack) (thread_state o ∷ seen) (out ++ (o ∷ []))
        × (left_over (state_count pat) (thread_state o ∷ seen) (epsilons_of i q o ++ stack)
        < left_over (state_count pat) seen (o ∷ stack))
    keeps_take l =
        let r : (m : ℕ) × (k.n ≡ suc m) = some_turn k.n (left_over (state_count pat) seen (o ∷ stack)) k.enough in
        let e : k.n ≡ suc r.0 = r.1 in
        let g = k.enough in
        let w : (0 < thread_state o) × (thread_state o ≤ state_count pat) = keeps_number in
        let a : room state_number 2 (state_count pat) (thread_state o
        ∷ seen) < room state_number 2 (state_count pat) seen =
        room_taken state_number 2 (state_count pat) (thread_state o) seen w.0 w.1 l in
        let b : length (epsilons_of i q o ++ stack) ≡ length (epsilons_of i q o) + length stack =
        len_append (epsilons_of i q o) stack in
        let c : map erase (epsilons i q top.0) ≡ epsilons_of i q o =
        erase_epsilon i q top.0 (top_at).1 ∙ ap (epsilons_of i q) top.3 in
        let d : length (epsilons_of i q o) ≤ 2 =
        subst (λ v. length v ≤ 2) c (subst (λ v. v ≤ 2) (sym (len_map (epsilons i q top.0))) (epsilon_short i q top.0))
        in
        let f : left_over (state_count pat) (thread_state o ∷ seen) (epsilons_of i q o ++ stack)
        < left_over (state_count pat) seen (o ∷ stack) = omega (arith, a, b, d) in (
          record {
            ys = epsilons i q top.0 ++ top.1;
            sound = sound;
            same = map-append erase (epsilons i q top.0) top.1 ∙ ap (λ v. v ++ map erase top.1) c
                ∙ ap (λ v. epsilons_of i q o ++ v) top.4;
            n = r.0;
            enough = omega (arith, f, g, e);
            total =
                append_assoc out (o ∷ []) (walk (epsilons_of i q) thread_state 2 r.0 (thread_state o ∷ seen)
                (epsilons_of i q o ++ stack))
                ∙ ap (λ l. out ++ l) (sym (ap (λ n. walk (epsilons_of i q) thread_state 2 n seen (o ∷ stack)) e
                ∙ turn r.0 seen o stack true (lt-ltb (times (thread_state o) seen) 2 l)))
                ∙ k.total;
          },
          f,
        )
      where
        len_map : (xs : List PartialReading) → length (map erase xs) ≡ length xs
        len_map [] = refl
        len_map (x ∷ xs) = ap suc (len_map xs)

        sound : (y : PartialReading) → In y (epsilons i q top.0 ++ top.1) → EndsAt i pat q y
        sound y m = elim (in_either y (epsilons i q top.0) top.1 m)
            [ inl h ↦ idle-sound i pat q top.0 top_at y h | inr h ↦ rest_at y h ]
