-- The bounded run mirrors the full one.
use Rattle.std.proofs.Common.{ℕ, zero, suc, ◌+◌, ◌≡◌, ◌<◌, ◌≤◌, inl, Option, Some, None, Bool, true, false, List, []}
use Rattle.std.proofs.Common.{◌∷◌, length, refl, sym, ◌∙◌, ap, subst, arith, eqb-true}
use Rattle.std.specs.Prelude.{if◌then◌else◌, ◌==◌}
use Rattle.std.specs.List.{cons_option}
use Rattle.mbe_tt.specs.Trees.Tree.{Forest, flat_len}
use Rattle.mbe_tt.specs.Grammars.Grammar.{Grammar, IsLawful}
use Rattle.mbe_semantics.specs.Syntax.Op.{Ops}
use Rattle.mbe_semantics.specs.Readings.Item.{Items}
use Rattle.mbe_semantics.specs.Readings.Input.{Input, input_of}
use Rattle.mbe_semantics.specs.Readings.Reading.{PartialReading, EndsAt, start, Reading}
use Rattle.mbe_semantics.specs.Readings.Steps.{epsilons, Move, move, next}
use Rattle.mbe_semantics.specs.Matching.Lists.{In}
use Rattle.mbe_semantics.specs.Matching.Trace.{trace}
use Rattle.mbe_semantics.specs.Syntax.Nullable.{Checked}
use Rattle.mbe_semantics.specs.Laws.Lawful.{Lawful}
use Rattle.mbe_semantics.specs.Matching.Closure.{whole, closure, moves_of, targets, completions, has_ambiguity}
use Rattle.mbe_semantics.specs.Readings.Ambiguity.{NoAmbiguity, OnlyReading}
use Rattle.mbe_semantics.specs.Readings.Verdict.{ambiguous, stuck, one_reading, verdict_of, IsVerdictOn, IsVerdict}
use Rattle.mbe_semantics.specs.Matching.Run.{run, continue_run, verdict, Reaches, at_start, at_next}
use Rattle.mbe_laws.proofs.Matching.Forest.{from_flat, in_flat}
use Rattle.mbe_laws.proofs.Matching.Sound.{idle-sound}
use Rattle.mbe_laws.proofs.Matching.Rank.{whole-step}
use Rattle.mbe_laws.proofs.Matching.Law.{Inv}
use Rattle.mbe_laws.proofs.Matching.Advance.{inv-start, inv-next}
use Rattle.mbe_laws.proofs.Matching.Final.{right_of, reading_of}
use Rattle.mbe_semantics.proofs.InputLemmas.{lawful_input}
use Rattle.mbe_laws.proofs.Matching.RunLemmas.{runs_are_right}
use Rattle.mbe_semantics.specs.Matching.States.{state_count, state_number}
use Rattle.mbe_laws.proofs.Matching.ThreadModels.{epsilon_short}
use Rattle.mbe_laws.specs.Bounded.States.{state_of}
use Rattle.mbe_laws.specs.Bounded.Run as from_run
use Rattle.mbe_laws.specs.Bounded.ClosureTwoEach.{first_two_each, turns, closure_two_each}
use Rattle.mbe_laws.specs.Bounded.Run.{ReachesBounded, continue_bounded, run_bounded, verdict_bounded}
use Rattle.mbe_laws.specs.Bounded.Laws.{StateNumbersUnique, ClosureHasTwoEach, BoundedLaw, FirstTwo, LinearIterations}
use Rattle.mbe_laws.specs.Bounded.Laws.{SameVerdict, BoundedRunsAreRight, BoundedReadings, BoundedReadingFound}
use Rattle.mbe_laws.proofs.States.Sift.{from_sift, sifted_first, room, sift_short, Left, LeftTwo}
use Rattle.mbe_laws.proofs.States.Walk.{steps_for, walk-sifts}
use Rattle.mbe_laws.proofs.States.States.{number-within, same-dot, same-number, onward, onward-alike, targets-onward}
use Rattle.mbe_laws.proofs.States.States.{whole-alike}
use Rattle.mbe_laws.proofs.Run.Moves.{same-end, same-one, same-clash, same-width, some_move, two_each_move, two_each_at}
use Rattle.mbe_laws.proofs.Run.Moves.{two_each_once, two_each_one, two_each_two}

pub room_all : (n : ℕ) → room state_number 2 n [] ≡ n + n
unfolding room
room_all zero = refl
room_all (suc n) = let e : room state_number 2 n [] ≡ n + n = room_all n in omega (arith, e)

pub twice : (r : ℕ) → steps_for 2 r ≡ r + r
unfolding steps_for
twice zero = refl
twice (suc r) = let e : steps_for 2 r ≡ r + r = twice r in omega (arith, e)

pub targets_short : (i : Input) (q : ℕ) (xs : List PartialReading) → length (targets (moves_of i q xs)) ≤ length xs
targets_short i q [] = omega arith
targets_short i q (x ∷ xs) = go (next i q x) (targets_short i q xs)
  where
    go : (o : Option Move) → length (targets (moves_of i q xs)) ≤ length xs
        → length (targets (cons_option o (moves_of i q xs))) ≤ suc (length xs)
    go None l = omega (arith, l)
    go (Some (move n f y)) l = omega (arith, l)

no_members : {A : Type 0} (xs : List A) → ((x : A) → In x xs → ⊥) → xs ≡ []
no_members [] h = refl
no_members (x ∷ xs) h = absurd (h x (inl refl))

module _ (i : Input) (pat : Ops) (len : ℕ) (lawful : Lawful i len) (checked : Checked pat) where
  -- what the stack gives
  pub held-is : (q : ℕ) (xs : List PartialReading) → ((x : PartialReading) → In x xs → EndsAt i pat q x)
      → closure_two_each i (state_count pat) q xs ≡ first_two_each (closure i q xs)
  held-is q xs a =
      walk-sifts state_number (epsilons i q) (whole i q) (EndsAt i pat q) (λ x g. whole-step i pat q lawful checked x g)
      (λ x y g m. idle-sound i pat q x g y m)
      (λ x y g h e. whole-alike i pat len lawful checked q x y g h e) 2 (state_count pat) 2 (epsilon_short i q)
      (λ x g. number-within i pat x g.0)
      (turns (length xs) (state_count pat)) xs a
      (let e : steps_for 2 (room state_number 2 (state_count pat) [])
      ≡ state_count pat + state_count pat + (state_count pat + state_count pat) =
      ap (steps_for 2) (room_all (state_count pat)) ∙ twice (state_count pat + state_count pat) in omega (arith, e))

  -- xs comes to q in the bounded run, and zs in the full one
  pub record Mirrors (q : ℕ) (xs zs : List PartialReading) : Type 0 where
    pub inv : Inv i pat q zs
    pub sound : (x : PartialReading) → In x xs → EndsAt i pat q x
    pub same : first_two_each (closure i q xs) ≡ first_two_each (closure i q zs)

  pub mirrors_start : Mirrors 0 (start pat ∷ []) (start pat ∷ [])
  mirrors_start =
      let v : Inv i pat 0 (start pat ∷ []) = inv-start i pat len lawful checked in
      record { inv = v; sound = v.sound; same = refl }

  module _ (q : ℕ) (xs zs : List PartialReading) (mirrors : Mirrors q xs zs) where
    pub two_each-is : closure_two_each i (state_count pat) q xs ≡ first_two_each (closure i q zs)
    two_each-is = held-is q xs mirrors.sound ∙ mirrors.same

    pub two_each-few : length (first_two_each (closure i q zs)) ≤ state_count pat + state_count pat
    two_each-few =
        let h : length (first_two_each (closure i q zs)) ≤ room state_number 2 (state_count pat) [] =
        sift_short state_number 2 (state_count pat) [] (closure i q zs) (λ x m. number-within i pat x (all_at x m).0) in
        let e : room state_number 2 (state_count pat) [] ≡ state_count pat + state_count pat =
        room_all (state_count pat) in
        omega (arith, h, e)
      where
        all_at : (x : PartialReading) → In x (closure i q zs) → EndsAt i pat q x
        all_at x m = Rattle.mbe_laws.proofs.Matching.Law.held-sound i pat len lawful checked q zs mirrors.inv x m

    all_at : (x : PartialReading) → In x (closure i q zs) → EndsAt i pat q x
    all_at x m = Rattle.mbe_laws.proofs.Matching.Law.held-sound i pat len lawful checked q zs mirrors.inv x m

    sub_targets : (x : PartialReading) → In x (targets (moves_of i q (first_two_each (closure i q zs))))
        → In x (targets (moves_of i q (closure i q zs)))
    sub_targets x h =
        let r : (z : PartialReading) × In z (first_two_each (closure i q zs)) × In x (onward i q z) =
        from_flat (onward i q) x (first_two_each (closure i q zs))
        (subst (In x) (targets-onward i q (first_two_each (closure i q zs))) h) in
        subst (In x) (sym (targets-onward i q (closure i q zs)))
        (in_flat (onward i q) x r.0 (closure i q zs) (from_sift state_number 2 [] (closure i q zs) r.0 r.1) r.2)

    -- what comes to the next place
    same_targets : first_two_each (targets (moves_of i q (first_two_each (closure i q zs))))
        ≡ first_two_each (targets (moves_of i q (closure i q zs)))
    same_targets =
        ap first_two_each (targets-onward i q (first_two_each (closure i q zs)))
        ∙ sifted_first state_number 2 (onward i q) (EndsAt i pat q) (λ x y a b e. onward-alike i pat q x y a b e)
        (closure i q zs)
        all_at
        ∙ sym (ap first_two_each (targets-onward i q (closure i q zs)))

    pub same_closed : (p : ℕ) (us ws : List PartialReading) → ((x : PartialReading) → In x us → EndsAt i pat p x)
        → ((x : PartialReading) → In x ws → EndsAt i pat p x) → first_two_each us ≡ first_two_each ws
        → first_two_each (closure i p us) ≡ first_two_each (closure i p ws)
    same_closed p us ws a b e =
        sym (sifted_first state_number 2 (whole i p) (EndsAt i pat p)
        (λ x y c d f. whole-alike i pat len lawful checked p x y c d f) us a)
        ∙ ap (λ l. first_two_each (closure i p l)) e
        ∙ sifted_first state_number 2 (whole i p) (EndsAt i pat p)
        (λ x y c d f. whole-alike i pat len lawful checked p x y c d f) ws b

    pub mirrors-next : (m : ℕ) (g : Bool) (z : PartialReading) (ks : List Move)
        → moves_of i q (closure i q zs) ≡ move m g z ∷ ks → has_ambiguity (move m g z ∷ ks) ≡ false →
        Mirrors (q + m) (targets (moves_of i q (first_two_each (closure i q zs))))
        (targets (moves_of i q (closure i q zs)))
    mirrors-next m g z ks e c =
        let v : Inv i pat (q + m) (targets (moves_of i q (closure i q zs))) =
        subst (λ l. Inv i pat (q + m) (targets l)) (sym e)
        (inv-next i pat len lawful checked q zs mirrors.inv m g z ks e c) in
        let s : (x : PartialReading) → In x (targets (moves_of i q (first_two_each (closure i q zs))))
        → EndsAt i pat (q + m) x =
        λ x h. v.sound x (sub_targets x h) in
        record {
          inv = v;
          sound = s;
          same = same_closed (q + m) (targets (moves_of i q (first_two_each (closure i q zs))))
              (targets (moves_of i q (closure i q zs))) s v.sound same_targets;
        }

    -- none moves in both, or some in both
    pub none_left : moves_of i q (closure i q zs) ≡ [] → moves_of i q (first_two_each (closure i q zs)) ≡ []
    none_left e = no_members (moves_of i q (first_two_each (closure i q zs)))
        (λ x h. let k : In x [] = subst (In x) e (two_each_move i pat len lawful checked q zs mirrors.inv x h) in k)

    pub some_left : (m : ℕ) (g : Bool) (z : PartialReading) (ks : List Move) → moves_of i q (closure i q zs)
        ≡ move m g z ∷ ks
        → moves_of i q (first_two_each (closure i q zs)) ≡ [] → ⊥
    some_left m g z ks e d =
        let r : (w : PartialReading) × In (move m g w) (moves_of i q (first_two_each (closure i q zs))) =
        some_move i pat len lawful checked q zs mirrors.inv m g z (subst (In (move m g z)) (sym e) (inl refl)) in
        let k : In (move m g r.0) [] = subst (In (move m g r.0)) d r.1 in
        k

  -- the runs answer alike
  pub runs-alike : (n q : ℕ) (xs zs : List PartialReading) → Mirrors q xs zs
      → run_bounded n i (state_count pat) len q xs ≡ run n i len q zs
  unfolding run_bounded run
  runs-alike zero q xs zs v = refl
  runs-alike (suc n) q xs zs v =
      ap (λ l. continue_bounded len q l (λ k ys. run_bounded n i (state_count pat) len k ys) (moves_of i q l))
      (two_each-is q xs zs v)
      ∙ go (moves_of i q (first_two_each (closure i q zs))) (moves_of i q (closure i q zs)) refl refl
      (λ p us ws h. runs-alike n p us ws h)
    where
      further : (m k : ℕ) (f g : Bool) (y z : PartialReading) (ms ks : List Move)
          → moves_of i q (first_two_each (closure i q zs)) ≡ move m f y ∷ ms → moves_of i q (closure i q zs)
          ≡ move k g z ∷ ks →
          ((p : ℕ) (us ws : List PartialReading) → Mirrors p us ws → run_bounded n i (state_count pat) len p us
          ≡ run n i len p ws)
          →
          (b : Bool) → has_ambiguity (move k g z ∷ ks) ≡ b →
          (if b then ambiguous q else run_bounded n i (state_count pat) len (q + m) (targets (move m f y ∷ ms)))
          ≡ (if b then ambiguous q else run n i len (q + k) (targets (move k g z ∷ ks)))
      further m k f g y z ms ks e d ih true c = refl
      further m k f g y z ms ks e d ih false c =
          let w : k ≡ m = same-width i pat len lawful checked q zs v.inv m k f g y z ms ks e d c in
          ap (λ j. run_bounded n i (state_count pat) len (q + j) (targets (move m f y ∷ ms))) (sym w)
          ∙ ap (λ l. run_bounded n i (state_count pat) len (q + k) (targets l)) (sym e)
          ∙ ih (q + k) (targets (moves_of i q (first_two_each (closure i q zs))))
          (targets (moves_of i q (closure i q zs)))
          (mirrors-next q xs zs v k g z ks d c)
          ∙ ap (λ l. run n i len (q + k) (targets l)) d

      go : (ms ks : List Move) → moves_of i q (first_two_each (closure i q zs)) ≡ ms → moves_of i q (closure i q zs)
          ≡ ks →
          ((p : ℕ) (us ws : List PartialReading) → Mirrors p us ws → run_bounded n i (state_count pat) len p us
          ≡ run n i len p ws)
          →
          continue_bounded len q (first_two_each (closure i q zs)) (λ k ys. run_bounded n i (state_count pat) len k ys)
          ms
          ≡ continue_run i len q zs (λ k ys. run n i len k ys) ks
      go [] [] e d ih = ap (λ r. if q == len then r else stuck q) (same-end len (closure i q zs))
      go [] (move k g z ∷ ks) e d ih = absurd (some_left q xs zs v k g z ks d e)
      go (move m f y ∷ ms) [] e d ih = let c : move m f y ∷ ms ≡ [] = sym e ∙ none_left q xs zs v d in cc
      go (move m f y ∷ ms) (move k g z ∷ ks) e d ih =
          let c : has_ambiguity (move m f y ∷ ms) ≡ has_ambiguity (move k g z ∷ ks) =
          ap has_ambiguity (sym e) ∙ same-clash i pat len lawful checked q zs v.inv ∙ ap has_ambiguity d in
          ap (λ b. if b then ambiguous q else run_bounded n i (state_count pat) len (q + m) (targets (move m f y ∷ ms)))
          c
          ∙ further m k f g y z ms ks e d ih (has_ambiguity (move k g z ∷ ks)) refl

  -- the places that the bounded run comes to
  abbrev pub Followed : ℕ → List PartialReading → Type 0
  Followed q xs = (zs : List PartialReading) × Reaches i pat q zs × Mirrors q xs zs

  follow : (q n : ℕ) (f : Bool) (y : PartialReading) (ms : List Move) (xs : List PartialReading) → Followed q xs
      → moves_of i q (closure_two_each i (state_count pat) q xs) ≡ move n f y ∷ ms → has_ambiguity (move n f y ∷ ms)
      ≡ false →
      Followed (q + n) (targets (move n f y ∷ ms))
  follow q n f y ms xs (zs, h, v) e c = go (moves_of i q (closure i q zs)) refl
    where
      two_each_moves : moves_of i q (first_two_each (closure i q zs)) ≡ move n f y ∷ ms
      two_each_moves = ap (moves_of i q) (sym (two_each-is q xs zs v)) ∙ e

      go : (ks : List Move) → moves_of i q (closure i q zs) ≡ ks → Followed (q + n) (targets (move n f y ∷ ms))
      go [] d = let w : move n f y ∷ ms ≡ [] = sym two_each_moves ∙ none_left q xs zs v d in cc
      go (move m g z ∷ ks) d =
          let b : has_ambiguity (move m g z ∷ ks) ≡ false =
          ap has_ambiguity (sym d) ∙ sym (same-clash i pat len lawful checked q zs v.inv)
          ∙ ap has_ambiguity two_each_moves
          ∙ c in
          let w : m ≡ n = same-width i pat len lawful checked q zs v.inv n m f g y z ms ks two_each_moves d b in (
            targets (move m g z ∷ ks),
            at_next q (q + n) m g z ks zs h d b (ap (λ j. q + j) (sym w)),
            subst (λ j. Mirrors (q + j) (targets (move n f y ∷ ms)) (targets (move m g z ∷ ks))) w
                (subst (λ l. Mirrors (q + m) (targets (move n f y ∷ ms)) (targets l)) d
                (subst (λ l. Mirrors (q + m) (targets l) (targets (moves_of i q (closure i q zs)))) two_each_moves
                (mirrors-next q xs zs v m g z ks d b))),
          )

  pub comes-bounded : {q : ℕ} {xs : List PartialReading} → ReachesBounded i pat q xs → Followed q xs
  comes-bounded from_run.at_start = (start pat ∷ [], at_start, mirrors_start)
  comes-bounded (from_run.at_next q m n f y ms xs h e c k) =
      subst (λ p. Followed p (targets (move n f y ∷ ms))) (sym k) (follow q n f y ms xs (comes-bounded h) e c)

  pub roots-few : {q : ℕ} {xs : List PartialReading} → ReachesBounded i pat q xs
      → length xs ≤ state_count pat + state_count pat
  roots-few from_run.at_start = let h : (0 < state_number (start pat)) × (state_number (start pat) ≤ state_count pat) =
      number-within i pat (start pat) (tt, refl) in let a = h.0 in let b = h.1 in omega (arith, a, b)
  roots-few (from_run.at_next q m n f y ms xs h e c k) =
      let r : Followed q xs = comes-bounded h in
      let a : length (targets (moves_of i q (closure_two_each i (state_count pat) q xs)))
      ≤ length (closure_two_each i (state_count pat) q xs) =
      targets_short i q (closure_two_each i (state_count pat) q xs) in
      let b : length (targets (move n f y ∷ ms)) ≤ length (closure_two_each i (state_count pat) q xs) =
      subst (λ l. length (targets l) ≤ length (closure_two_each i (state_count pat) q xs)) e a in
      let d : length (closure_two_each i (state_count pat) q xs) ≤ state_count pat + state_count pat =
      subst (λ l. length l ≤ state_count pat + state_count pat) (sym (two_each-is q xs r.0 r.2))
      (two_each-few q xs r.0 r.2) in
      omega (arith, b, d)

-- ---- the laws

pub state_numbers_unique : StateNumbersUnique
state_numbers_unique = record {
  one_state = λ i j pat x y a b e. same-dot i j pat x y a b e;
  one_number = λ x y e. same-number x y e;
  bounded = λ i pat x a. number-within i pat x a;
}

pub holds_two_each : (g : Grammar) (pat : Ops) (argument : Forest) → IsLawful g → Checked pat
    → (q : ℕ) (xs zs : List PartialReading) →
    (l : Lawful (input_of g argument) (flat_len argument)) (c : Checked pat)
    → Mirrors (input_of g argument) pat (flat_len argument) l c q xs zs
    → ClosureHasTwoEach g pat argument q (first_two_each (closure (input_of g argument) q zs))
holds_two_each g pat argument w k q xs zs l c v = record {
  partial_readings = two_each_at i pat len l c q zs v.inv;
  once = two_each_once i pat len l c q zs v.inv;
  one = λ x a. one_of x a (two_each_one i pat len l c q zs v.inv x a);
  two = λ x z a b e n. two_of x a (two_each_two i pat len l c q zs v.inv x z a b (same-number x z e) n);
  few = two_each-few i pat len l c q xs zs v;
}
  where
    i : Input
    i = input_of g argument

    len : ℕ
    len = flat_len argument

    at : (y : PartialReading) → In y (first_two_each (closure i q zs)) → EndsAt i pat q y
    at y m = two_each_at i pat len l c q zs v.inv y m

    one_of : (x : PartialReading) → EndsAt i pat q x → Left state_number 2 [] (closure i q zs) (state_number x)
        → (y : PartialReading) × In y (first_two_each (closure i q zs)) × (state_of y ≡ state_of x)
    one_of x a r = (r.0, r.1, same-dot i i pat r.0 x (at r.0 r.1).0 a.0 r.2)

    two_of : (x : PartialReading) → EndsAt i pat q x → LeftTwo state_number 2 trace [] (closure i q zs) (state_number x)
        →
        (y : PartialReading) × (w : PartialReading) × In y (first_two_each (closure i q zs))
        × In w (first_two_each (closure i q zs))
        × (state_of y ≡ state_of x) × (state_of w ≡ state_of x) × (y ≡ w → ⊥)
    two_of x a r = (
      r.0,
      r.1,
      r.2,
      r.3,
      same-dot i i pat r.0 x (at r.0 r.2).0 a.0 r.4,
      same-dot i i pat r.1 x (at r.1 r.3).0 a.0 r.5,
      λ e. r.6 (ap trace e),
    )

pub bounded_law : BoundedLaw
bounded_law g pat argument w k q xs h =
    let l : Lawful (input_of g argument) (flat_len argument) = lawful_input g argument w in
    let r : Followed (input_of g argument) pat (flat_len argument) l k q xs =
    comes-bounded (input_of g argument) pat (flat_len argument) l k h in
    subst (ClosureHasTwoEach g pat argument q)
    (sym (two_each-is (input_of g argument) pat (flat_len argument) l k q xs r.0 r.2))
    (holds_two_each g pat argument w k q xs r.0 l k r.2)

pub first_two : FirstTwo
first_two g pat argument w k q xs h =
    let l : Lawful (input_of g argument) (flat_len argument) = lawful_input g argument w in
    let r : Followed (input_of g argument) pat (flat_len argument) l k q xs =
    comes-bounded (input_of g argument) pat (flat_len argument) l k h in
    (r.0, r.1, two_each-is (input_of g argument) pat (flat_len argument) l k q xs r.0 r.2)

pub linear_iterations : LinearIterations
linear_iterations g pat argument w k q xs h =
    let a : length xs ≤ state_count pat + state_count pat =
    roots-few (input_of g argument) pat (flat_len argument) (lawful_input g argument w) k h in
    (a, omega (arith, a))

pub same_verdict : SameVerdict
unfolding verdict_bounded verdict
same_verdict g pat argument w k =
    let l : Lawful (input_of g argument) (flat_len argument) = lawful_input g argument w in
    runs-alike (input_of g argument) pat (flat_len argument) l k (suc (flat_len argument)) 0 (start pat ∷ [])
    (start pat ∷ [])
    (mirrors_start (input_of g argument) pat (flat_len argument) l k)

pub bounded_runs_are_right : BoundedRunsAreRight
bounded_runs_are_right g pat argument w k =
    subst (IsVerdict g pat argument) (sym (same_verdict g pat argument w k)) (runs_are_right g pat argument w k)

-- what is held alone at the end is the only reading
pub only_fits : (i : Input) (pat : Ops) (len : ℕ) (l : Lawful i len) (k : Checked pat) (xs zs : List PartialReading)
    (is : Items) → Mirrors i pat len l k len xs zs → completions (closure_two_each i (state_count pat) len xs) ≡ is ∷ []
    → NoAmbiguity i pat × OnlyReading i pat len is
only_fits i pat len l k xs zs is v e = (a.0, fit a.1)
  where
    full : completions (closure i len zs) ≡ is ∷ []
    full = same-one is (closure i len zs) (ap completions (sym (two_each-is i pat len l k len xs zs v)) ∙ e)

    a : IsVerdictOn i pat len (verdict_of len (is ∷ []))
    a = subst (λ rs. IsVerdictOn i pat len (verdict_of len rs)) full
        (right_of i pat len l k zs v.inv (completions (closure i len zs)) refl)

    fit : ((js : Items) × OnlyReading i pat len js) → OnlyReading i pat len is
    fit o =
        let b : Reading i pat len is = reading_of i pat len l k zs v.inv is (subst (In is) (sym full) (inl refl)) in
        subst (OnlyReading i pat len) (sym (o.1.1 is b)) o.1

pub bounded_readings : BoundedReadings
bounded_readings g pat argument w k xs h is e =
    let l : Lawful (input_of g argument) (flat_len argument) = lawful_input g argument w in
    let r : Followed (input_of g argument) pat (flat_len argument) l k (flat_len argument) xs =
    comes-bounded (input_of g argument) pat (flat_len argument) l k h in
    only_fits (input_of g argument) pat (flat_len argument) l k xs r.0 is r.2 e

-- where the run finds one reading
abbrev OneAt : Input → Ops → ℕ → Type 0
OneAt i pat len = (xs : List PartialReading) × (is : Items) × ReachesBounded i pat len xs
    × (completions (closure_two_each i (state_count pat) len xs) ≡ is ∷ [])

one_counted : {A : Type 0} (len : ℕ) (rs : List A) → verdict_of len rs ≡ one_reading → (r : A) × (rs ≡ r ∷ [])
one_counted len [] e = cc
one_counted len (r ∷ []) e = (r, refl)
one_counted len (r ∷ t ∷ rs) e = cc

found : (i : Input) (pat : Ops) (len n q : ℕ) (xs : List PartialReading) → ReachesBounded i pat q xs
    → run_bounded n i (state_count pat) len q xs ≡ one_reading → OneAt i pat len
unfolding run_bounded
found i pat len zero q xs h e = cc
found i pat len (suc n) q xs h e = go (moves_of i q (closure_two_each i (state_count pat) q xs)) refl e
    (λ p ys a b. found i pat len n p ys a b)
  where
    ended : (b : Bool) → (q == len) ≡ b
        → (if b then verdict_of len (completions (closure_two_each i (state_count pat) q xs)) else
        stuck q) ≡ one_reading → OneAt i pat len
    ended true d f =
        let r : (is : Items) × (completions (closure_two_each i (state_count pat) q xs) ≡ is ∷ []) =
        one_counted len (completions (closure_two_each i (state_count pat) q xs)) f in
        subst (OneAt i pat) (eqb-true q len d) (xs, r.0, h, r.1)
    ended false d f = cc

    further : (m : ℕ) (f : Bool) (y : PartialReading) (ms : List Move)
        → moves_of i q (closure_two_each i (state_count pat) q xs) ≡ move m f y ∷ ms → (b : Bool)
        → has_ambiguity (move m f y ∷ ms) ≡ b
        →
        (if b then ambiguous q else run_bounded n i (state_count pat) len (q + m) (targets (move m f y ∷ ms)))
        ≡ one_reading →
        ((p : ℕ) (ys : List PartialReading) → ReachesBounded i pat p ys → run_bounded n i (state_count pat) len p ys
        ≡ one_reading
        → OneAt i pat len) → OneAt i pat len
    further m f y ms d true c a ih = cc
    further m f y ms d false c a ih = ih (q + m) (targets (move m f y ∷ ms))
        (from_run.at_next q (q + m) m f y ms xs h d c refl) a

    go : (ms : List Move) → moves_of i q (closure_two_each i (state_count pat) q xs) ≡ ms →
        continue_bounded len q (closure_two_each i (state_count pat) q xs)
        (λ k ys. run_bounded n i (state_count pat) len k ys) ms
        ≡ one_reading →
        ((p : ℕ) (ys : List PartialReading) → ReachesBounded i pat p ys → run_bounded n i (state_count pat) len p ys
        ≡ one_reading
        → OneAt i pat len) → OneAt i pat len
    go [] d a ih = ended (q == len) refl a
    go (move m f y ∷ ms) d a ih = further m f y ms d (has_ambiguity (move m f y ∷ ms)) refl a ih

pub bounded_reading_found : BoundedReadingFound
unfolding verdict_bounded
bounded_reading_found g pat argument w k e =
    let r : OneAt (input_of g argument) pat (flat_len argument) =
    found (input_of g argument) pat (flat_len argument) (suc (flat_len argument)) 0 (start pat ∷ []) from_run.at_start
    e in
    (r.0, r.1, r.2, r.3, bounded_readings g pat argument w k r.0 r.2 r.1 r.3)
