-- The walk backward gives the last of each dot.
use Rattle.std.proofs.Common.{ℕ, zero, suc, ◌+◌, ◌≡◌, ◌⊎◌, ◌<◌, ◌≤◌, inl, inr, Bool, true, false, List, [], ◌∷◌, ◌++◌}
use Rattle.std.proofs.Common.{map, reverse, length, refl, sym, ◌∙◌, ap, subst, arith}
use Rattle.std.specs.Prelude.{nat_lt}
use Rattle.std.specs.List.{flat_map}
use Rattle.std.proofs.lemmas.List.{reverse-append, reverse-reverse, map-append, length-reverse}
use Rattle.std.proofs.lemmas.Grind.{flat_map-append}
use Rattle.mbe_tt.specs.Trees.Tree.{flat_len}
use Rattle.mbe_semantics.specs.Syntax.Op.{Ops}
use Rattle.mbe_semantics.specs.Readings.Input.{Input, input_of}
use Rattle.mbe_semantics.specs.Readings.Reading.{PartialReading, EndsAt}
use Rattle.mbe_semantics.specs.Readings.Steps.{epsilons, tree}
use Rattle.mbe_semantics.specs.Syntax.Nullable.{Checked}
use Rattle.mbe_semantics.specs.Laws.Lawful.{Lawful}
use Rattle.mbe_semantics.specs.Matching.Lists.{In}
use Rattle.mbe_semantics.specs.Matching.ThreadModel.{rank}
use Rattle.mbe_semantics.specs.Matching.Closure.{whole, closure, moves_of, targets}
use Rattle.mbe_laws.proofs.Matching.Forest.{in_either, tree-steady}
use Rattle.mbe_laws.proofs.Matching.Rank.{idle-falls, whole-step}
use Rattle.mbe_laws.proofs.Matching.Sound.{idle-sound}
use Rattle.mbe_semantics.proofs.InputLemmas.{lawful_input}
use Rattle.mbe_semantics.specs.Matching.States.{state_count, state_number}
use Rattle.mbe_laws.specs.Bounded.ClosureTwoEach.{cons_if, times, first_of_each_key, walk, turns}
use Rattle.mbe_laws.specs.Reports.Ends.{firsts, lasts, reversed_targets}
use Rattle.mbe_laws.specs.Reports.Backward.{Visit, enter, leave, visits, visit_number, leaves_in, visit_turns}
use Rattle.mbe_laws.specs.Reports.Backward.{closure_back, closure_first, BothDirectionsLaw, SwapLaw}
use Rattle.mbe_laws.proofs.States.Sift.{equal_or_not, times_same, times_other, room}
use Rattle.mbe_laws.proofs.States.Walk.{len_append, steps_for, walk-sifts}
use Rattle.mbe_laws.proofs.States.States.{number-within, epsilon_numbers, whole-alike, targets-onward}
use Rattle.mbe_laws.proofs.Matching.ThreadModels.{epsilon_short}
use Rattle.mbe_laws.proofs.Run.BoundedRun.{twice}
use Rattle.mbe_laws.proofs.Reports.EndLemmas.{reverse_flat, numbers_reverse, from_reverse, turned_is, led_at, in_firsts}
use Rattle.mbe_laws.proofs.Reports.EndLemmas.{in_lasts, ends_law}

from_enter : (v : Visit) (xs : List PartialReading) → In v (map enter xs) → (x : PartialReading) × In x xs
    × (v ≡ enter x)
from_enter v [] h = absurd h
from_enter v (x ∷ xs) (inl e) = (x, inl refl, e)
from_enter v (x ∷ xs) (inr m) = let r = from_enter v xs m in (r.0, inr r.1, r.2)

left_append : (vs ws : List Visit) → leaves_in (vs ++ ws) ≡ leaves_in vs ++ leaves_in ws
left_append [] ws = refl
left_append (enter x ∷ vs) ws = left_append vs ws
left_append (leave x ∷ vs) ws = ap (λ l. x ∷ l) (left_append vs ws)

left_cons : (b : Bool) (x : PartialReading) (vs : List Visit) → leaves_in (cons_if b (leave x) vs)
    ≡ cons_if b x (leaves_in vs)
left_cons true x vs = refl
left_cons false x vs = refl

left_past : (b : Bool) (x : PartialReading) (vs : List Visit) → leaves_in (cons_if b (enter x) vs) ≡ leaves_in vs
left_past true x vs = refl
left_past false x vs = refl

left_sift : (s t : List ℕ) (vs : List Visit) → ((n : ℕ) → times (suc (n + n)) s ≡ times n t)
    → leaves_in (first_of_each_key visit_number 1 s vs) ≡ first_of_each_key state_number 1 t (leaves_in vs)
left_sift s t [] h = refl
left_sift s t (enter x ∷ vs) h =
    left_past (nat_lt (times (state_number x + state_number x) s) 1) x
    (first_of_each_key visit_number 1 ((state_number x + state_number x) ∷ s) vs)
    ∙ left_sift ((state_number x + state_number x) ∷ s) t vs
    (λ n. times_other (suc (n + n)) (state_number x + state_number x) s (λ e. omega (arith, e)) ∙ h n)
left_sift s t (leave x ∷ vs) h =
    left_cons (nat_lt (times (suc (state_number x + state_number x)) s) 1) x
    (first_of_each_key visit_number 1 (suc (state_number x + state_number x) ∷ s) vs)
    ∙ ap (λ n. cons_if (nat_lt n 1) x (leaves_in (first_of_each_key visit_number 1
    (suc (state_number x + state_number x) ∷ s) vs)))
    (h (state_number x))
    ∙ ap (cons_if (nat_lt (times (state_number x) t) 1) x)
    (left_sift (suc (state_number x + state_number x) ∷ s) (state_number x ∷ t) vs more)
  where
    more : (n : ℕ) → times (suc (n + n)) (suc (state_number x + state_number x) ∷ s) ≡ times n (state_number x ∷ t)
    more n = go (equal_or_not n (state_number x))
      where
        go : ((n ≡ state_number x) ⊎ (n ≡ state_number x → ⊥))
            → times (suc (n + n)) (suc (state_number x + state_number x) ∷ s) ≡ times n (state_number x ∷ t)
        go (inl e) = times_same (suc (n + n)) (suc (state_number x + state_number x)) s (omega (arith, e))
            ∙ ap suc (h n)
            ∙ sym (times_same n (state_number x) t e)
        go (inr d) = times_other (suc (n + n)) (suc (state_number x + state_number x)) s (λ e. d (omega (arith, e)))
            ∙ h n
            ∙ sym (times_other n (state_number x) t d)

room_one : (n : ℕ) → room visit_number 1 n [] ≡ n
unfolding room
room_one zero = refl
room_one (suc n) = let e : room visit_number 1 n [] ≡ n = room_one n in omega (arith, e)

thrice : (r : ℕ) → steps_for 3 r ≡ r + r + r
unfolding steps_for
thrice zero = refl
thrice (suc r) = let e : steps_for 3 r ≡ r + r + r = thrice r in omega (arith, e)

len_enter : (xs : List PartialReading) → length (map enter xs) ≡ length xs
len_enter [] = refl
len_enter (x ∷ xs) = ap suc (len_enter xs)

module _ (i : Input) (pat : Ops) (len : ℕ) (lawful : Lawful i len) (checked : Checked pat) (q : ℕ) where
  abbrev VGood : Visit → Type 0
  VGood (enter x) = EndsAt i pat q x
  VGood (leave x) = EndsAt i pat q x

  abbrev vrank : Visit → ℕ
  vrank (enter x) = suc (rank q x)
  vrank (leave x) = 0

  falls : (v w : Visit) → VGood v → In w (visits i q v) → VGood w × (vrank w < vrank v)
  falls (leave x) w g h = absurd h
  falls (enter x) w g h = go (in_either w (map enter (reverse (epsilons i q x))) (leave x ∷ []) h)
    where
      go : (In w (map enter (reverse (epsilons i q x))) ⊎ In w (leave x ∷ [])) → VGood w × (vrank w < suc (rank q x))
      go (inl m) =
          let r : (c : PartialReading) × In c (reverse (epsilons i q x)) × (w ≡ enter c) =
          from_enter w (reverse (epsilons i q x)) m in
          let f : EndsAt i pat q r.0 × (rank q r.0 < rank q x) =
          idle-falls i pat q lawful checked x r.0 g (from_reverse r.0 (epsilons i q x) r.1) in
          let a = f.1 in
          subst (λ u. VGood u × (vrank u < suc (rank q x))) (sym r.2) (f.0, omega (arith, a))
      go (inr (inl e)) = subst (λ u. VGood u × (vrank u < suc (rank q x))) (sym e) (g, omega arith)
      go (inr (inr m)) = absurd m

  unfoldable V : Visit → List Visit
  V v = tree (visits i q) (suc (vrank v)) v

  vstep : (v : Visit) → VGood v → V v ≡ v ∷ flat_map V (visits i q v)
  unfolding tree V
  vstep v g = ap (λ l. v ∷ l) (same (visits i q v) (λ w m. falls v w g m))
    where
      same : (ws : List Visit) → ((w : Visit) → In w ws → VGood w × (vrank w < vrank v))
          → flat_map (tree (visits i q) (vrank v)) ws ≡ flat_map (λ w. tree (visits i q) (suc (vrank w)) w) ws
      same [] f = refl
      same (w ∷ ws) f =
          let e : tree (visits i q) (vrank v) w ≡ tree (visits i q) (suc (vrank w)) w =
          tree-steady (visits i q) VGood vrank falls (vrank v) (suc (vrank w)) w (f w (inl refl)).0 (f w (inl refl)).1
          (omega arith) in
          rw (e, same ws (λ u m. f u (inr m))) refl

  v_leave : (x : PartialReading) → V (leave x) ≡ leave x ∷ []
  unfolding tree V
  v_leave x = refl

  -- what comes of an entered one
  v_enter : (x : PartialReading) → EndsAt i pat q x
      → V (enter x) ≡ enter x ∷ (flat_map V (map enter (reverse (epsilons i q x))) ++ (leave x ∷ []))
  v_enter x g =
      vstep (enter x) g
      ∙ ap (λ l. enter x ∷ l) (flat_map-append V (map enter (reverse (epsilons i q x))) (leave x ∷ [])
      ∙ ap (λ l. flat_map V (map enter (reverse (epsilons i q x))) ++ (l ++ [])) (v_leave x))

  left_flat : (cs : List PartialReading)
      → ((c : PartialReading) → In c cs → leaves_in (V (enter c)) ≡ reverse (whole i q c))
      → leaves_in (flat_map V (map enter cs)) ≡ flat_map (λ x. reverse (whole i q x)) cs
  left_flat [] h = refl
  left_flat (c ∷ cs) h =
      left_append (V (enter c)) (flat_map V (map enter cs))
      ∙ ap (λ l. l ++ leaves_in (flat_map V (map enter cs))) (h c (inl refl))
      ∙ ap (λ l. reverse (whole i q c) ++ l) (left_flat cs (λ d m. h d (inr m)))

  left_whole : (n : ℕ) (x : PartialReading) → EndsAt i pat q x → rank q x < n → leaves_in (V (enter x))
      ≡ reverse (whole i q x)
  left_whole zero x g l = absurd (omega (arith, l))
  left_whole (suc n) x g l =
      ap leaves_in (v_enter x g)
      ∙ left_append (flat_map V (map enter (reverse (epsilons i q x)))) (leave x ∷ [])
      ∙ ap (λ v. v ++ (x ∷ [])) (left_flat (reverse (epsilons i q x))
      (λ c m. let f : EndsAt i pat q c × (rank q c < rank q x) = idle-falls i pat q lawful checked x c g
      (from_reverse c (epsilons i q x) m) in let a = f.1 in left_whole n c f.0 (omega (arith, a, l))))
      ∙ ap (λ v. v ++ (x ∷ [])) (sym (reverse_flat (whole i q) (epsilons i q x)))
      ∙ sym (reverse-append (x ∷ []) (closure i q (epsilons i q x)))
      ∙ sym (ap reverse (whole-step i pat q lawful checked x g))

  flat_keys : (xs ys : List PartialReading)
      → ((x y : PartialReading) → In x xs → In y ys → state_number x ≡ state_number y
      → map visit_number (V (enter x)) ≡ map visit_number (V (enter y))) →
      map state_number xs ≡ map state_number ys → map visit_number (flat_map V (map enter xs))
      ≡ map visit_number (flat_map V (map enter ys))
  flat_keys [] [] h e = refl
  flat_keys [] (y ∷ ys) h e = cc
  flat_keys (x ∷ xs) [] h e = cc
  flat_keys (x ∷ xs) (y ∷ ys) h e =
      let d : state_number x ≡ state_number y = cc in
      let c : map state_number xs ≡ map state_number ys = cc in
      map-append visit_number (V (enter x)) (flat_map V (map enter xs))
      ∙ ap (λ v. v ++ map visit_number (flat_map V (map enter xs))) (h x y (inl refl) (inl refl) d)
      ∙ ap (λ v. map visit_number (V (enter y)) ++ v) (flat_keys xs ys (λ u v m k. h u v (inr m) (inr k)) c)
      ∙ sym (map-append visit_number (V (enter y)) (flat_map V (map enter ys)))

  enter_alike : (n : ℕ) (x y : PartialReading) → EndsAt i pat q x → rank q x < n → EndsAt i pat q y → state_number x
      ≡ state_number y
      → map visit_number (V (enter x)) ≡ map visit_number (V (enter y))
  enter_alike zero x y a l b e = absurd (omega (arith, l))
  enter_alike (suc n) x y a l b e =
      keys x a
      ∙ ap (λ m. (m + m) ∷ (map visit_number (flat_map V (map enter (reverse (epsilons i q x)))) ++ (suc (m + m) ∷ [])))
      e
      ∙ ap (λ v. (state_number y + state_number y) ∷ (v ++ (suc (state_number y + state_number y) ∷ [])))
      (flat_keys (reverse (epsilons i q x)) (reverse (epsilons i q y))
      (λ u v m k c. let f : EndsAt i pat q u × (rank q u < rank q x) = idle-falls i pat q lawful checked x u a
      (from_reverse u (epsilons i q x) m) in let r = f.1 in
      enter_alike n u v f.0 (omega (arith, r, l))
      (idle-falls i pat q lawful checked y v b (from_reverse v (epsilons i q y) k)).0 c)
      (numbers_reverse (epsilons i q x) ∙ ap reverse (epsilon_numbers i pat q x y a b e)
      ∙ sym (numbers_reverse (epsilons i q y))))
      ∙ sym (keys y b)
    where
      keys : (z : PartialReading) → EndsAt i pat q z
          → map visit_number (V (enter z)) ≡ (state_number z + state_number z)
          ∷ (map visit_number (flat_map V (map enter (reverse (epsilons i q z))))
          ++ (suc (state_number z + state_number z) ∷ []))
      keys z g = ap (map visit_number) (v_enter z g)
          ∙ ap (λ v. (state_number z + state_number z) ∷ v)
          (map-append visit_number (flat_map V (map enter (reverse (epsilons i q z)))) (leave z ∷ []))

  valike : (v w : Visit) → VGood v → VGood w → visit_number v ≡ visit_number w
      → map visit_number (V v) ≡ map visit_number (V w)
  valike (enter x) (enter y) g h e = enter_alike (suc (rank q x)) x y g (omega arith) h (omega (arith, e))
  valike (enter x) (leave y) g h e = absurd (omega (arith, e))
  valike (leave x) (enter y) g h e = absurd (omega (arith, e))
  valike (leave x) (leave y) g h e = ap (map visit_number) (v_leave x) ∙ ap (λ n. n ∷ []) e
      ∙ sym (ap (map visit_number) (v_leave y))

  vfew : (v : Visit) → length (visits i q v) ≤ 3
  vfew (leave x) = omega arith
  vfew (enter x) =
      let a : length (map enter (reverse (epsilons i q x)) ++ (leave x ∷ []))
      ≡ length (map enter (reverse (epsilons i q x))) + 1 =
      len_append (map enter (reverse (epsilons i q x))) (leave x ∷ []) in
      let b : length (map enter (reverse (epsilons i q x))) ≡ length (reverse (epsilons i q x)) =
      len_enter (reverse (epsilons i q x)) in
      let c : length (reverse (epsilons i q x)) ≡ length (epsilons i q x) = length-reverse (epsilons i q x) in
      let d : length (epsilons i q x) ≤ 2 = epsilon_short i q x in
      omega (arith, a, b, c, d)

  vbounded : (v : Visit) → VGood v → (0 < visit_number v) × (visit_number v ≤ suc (state_count pat + state_count pat))
  vbounded (enter x) g = let w : (0 < state_number x) × (state_number x ≤ state_count pat) =
      number-within i pat x g.0 in let a =
      w.0 in let b = w.1 in (omega (arith, a), omega (arith, b))
  vbounded (leave x) g = let w : (0 < state_number x) × (state_number x ≤ state_count pat) =
      number-within i pat x g.0 in let b =
      w.1 in (omega arith, omega (arith, b))

  pub back : (xs : List PartialReading) → ((x : PartialReading) → In x xs → EndsAt i pat q x)
      → closure_back i (state_count pat) q xs ≡ firsts (reverse (closure i q (reverse xs)))
  back xs a =
      ap leaves_in walked
      ∙ left_sift [] [] (flat_map V (map enter xs)) (λ n. refl)
      ∙ ap firsts (left_flat xs (λ c m. left_whole (suc (rank q c)) c (a c m) (omega arith))
      ∙ ap (flat_map (λ x. reverse (whole i q x))) (sym (reverse-reverse xs))
      ∙ sym (reverse_flat (whole i q) (reverse xs)))
    where
      good : (v : Visit) → In v (map enter xs) → VGood v
      good v m = let r : (x : PartialReading) × In x xs × (v ≡ enter x) =
          from_enter v xs m in subst VGood (sym r.2) (a r.0 r.1)

      enough : length (map enter xs) + steps_for 3 (room visit_number 1 (suc (state_count pat + state_count pat)) [])
          < visit_turns (length xs) (state_count pat)
      enough =
          let b : length (map enter xs) ≡ length xs = len_enter xs in
          let d : steps_for 3 (room visit_number 1 (suc (state_count pat + state_count pat)) [])
          ≡ suc (state_count pat + state_count pat) + suc (state_count pat + state_count pat) + suc
          (state_count pat + state_count pat) =
          ap (steps_for 3) (room_one (suc (state_count pat + state_count pat)))
          ∙ thrice (suc (state_count pat + state_count pat)) in
          omega (arith, b, d)

      walked : walk (visits i q) visit_number 1 (visit_turns (length xs) (state_count pat)) [] (map enter xs)
          ≡ first_of_each_key visit_number 1 [] (flat_map V (map enter xs))
      walked = walk-sifts visit_number (visits i q) V VGood vstep (λ v w g m. (falls v w g m).0) valike 1
          (suc (state_count pat + state_count pat)) 3 vfew vbounded
          (visit_turns (length xs) (state_count pat)) (map enter xs) good enough

  pub forth : (xs : List PartialReading) → ((x : PartialReading) → In x xs → EndsAt i pat q x)
      → closure_first i (state_count pat) q xs ≡ firsts (closure i q xs)
  unfolding room
  forth xs a =
      walk-sifts state_number (epsilons i q) (whole i q) (EndsAt i pat q) (λ x g. whole-step i pat q lawful checked x g)
      (λ x y g m. idle-sound i pat q x g y m)
      (λ x y g h e. whole-alike i pat len lawful checked q x y g h e) 1 (state_count pat) 2 (epsilon_short i q)
      (λ x g. number-within i pat x g.0)
      (turns (length xs) (state_count pat)) xs a
      (let e : steps_for 2 (room state_number 1 (state_count pat) [])
      ≡ state_count pat + state_count pat =
      ap (steps_for 2) (room_ones (state_count pat)) ∙ twice (state_count pat) in omega (arith, e))
    where
      room_ones : (n : ℕ) → room state_number 1 n [] ≡ n
      room_ones zero = refl
      room_ones (suc n) = let e : room state_number 1 n [] ≡ n = room_ones n in omega (arith, e)

pub both_directions : BothDirectionsLaw
both_directions g pat argument w k q xs a = record {
  forward = forth (input_of g argument) pat (flat_len argument) (lawful_input g argument w) k q xs a;
  backward =
      back (input_of g argument) pat (flat_len argument) (lawful_input g argument w) k q (reverse xs)
      (λ x h. a x (from_reverse x xs h))
      ∙ ap (λ l. firsts (reverse (closure (input_of g argument) q l))) (reverse-reverse xs)
      ∙ sym (reverse-reverse (firsts (reverse (closure (input_of g argument) q xs))));
}

pub swap_law : SwapLaw
swap_law g pat argument w k q m ys a b = record {
  first =
      ap (closure_first i (state_count pat) m) first_same
      ∙ forth i pat (flat_len argument) (lawful_input g argument w) k m (reversed_targets i q (lasts ys))
      (led_at i pat (flat_len argument) (lawful_input g argument w) k q m ys a b (lasts ys)
      (λ x h. in_lasts i pat (flat_len argument) (lawful_input g argument w) k q m ys a b x ys h))
      ∙ (ends_law g pat argument w k q m ys a b).first;
  last =
      ap (closure_back i (state_count pat) m) (sym (reverse-reverse (targets (moves_of i q (firsts ys)))))
      ∙ (both_directions g pat argument w k m (reversed_targets i q (firsts ys))
      (led_at i pat (flat_len argument) (lawful_input g argument w) k q m ys a b (firsts ys)
      (λ x h. in_firsts i pat (flat_len argument) (lawful_input g argument w) k q m ys a b x ys h))).backward
      ∙ ap reverse (ends_law g pat argument w k q m ys a b).last;
}
  where
    i : Input
    i = input_of g argument

    first_same : targets (moves_of i q (reverse (lasts ys))) ≡ reversed_targets i q (lasts ys)
    first_same =
        targets-onward i q (reverse (lasts ys)) ∙ sym (turned_is i q (lasts ys))
