-- The bounded run in whatever order.
use Rattle.std.proofs.Common.{ℕ, zero, suc, ◌+◌, ◌≡◌, ◌<◌, ◌≤◌, inl, inr, Option, Some, None, Bool, true, false, List}
use Rattle.std.proofs.Common.{[], ◌∷◌, ◌++◌, map, length, refl, sym, ◌∙◌, ap, subst, arith, eqb-true, append-nil}
use Rattle.std.proofs.Common.{option_map}
use Rattle.std.specs.Prelude.{if◌then◌else◌, ◌==◌}
use Rattle.std.proofs.lemmas.Bool.{eqb-false}
use Rattle.mbe_tt.specs.Trees.Tree.{flat_len}
use Rattle.mbe_semantics.specs.Syntax.Op.{Ops, no_ops}
use Rattle.mbe_semantics.specs.Readings.Item.{Items, items_width}
use Rattle.mbe_semantics.specs.Readings.Input.{Input, input_of}
use Rattle.mbe_semantics.specs.Readings.Reading.{PartialReading, partial, offset, EndsAt, start, Reading}
use Rattle.mbe_semantics.specs.Readings.Steps.{Move, move, next}
use Rattle.mbe_semantics.specs.Matching.Lists.{In, Distinct}
use Rattle.mbe_semantics.specs.Matching.Trace.{trace, before, fresh}
use Rattle.mbe_semantics.specs.Syntax.Nullable.{Checked}
use Rattle.mbe_semantics.specs.Laws.Lawful.{Lawful}
use Rattle.mbe_semantics.specs.Matching.Closure.{closure, moves_of, targets, completions, has_ambiguity}
use Rattle.mbe_semantics.specs.Readings.Verdict.{ambiguous, stuck, one_reading, verdict_of, IsVerdictOn, IsVerdict}
use Rattle.mbe_semantics.specs.Matching.Run.{verdict}
use Rattle.mbe_laws.proofs.Matching.Forest.{in_left, in_right, in_either, distinct_append}
use Rattle.mbe_laws.proofs.Matching.Ambiguities.{from_filter, in_filter, from_targets, in_targets, targets_distinct}
use Rattle.mbe_semantics.proofs.Traces.{next-after}
use Rattle.mbe_laws.proofs.Matching.Law.{Inv, held-sound, held-once}
use Rattle.mbe_laws.proofs.Matching.Advance.{inv-next, next_fresh, some_width, right-ambiguous, right-stuck, last-place}
use Rattle.mbe_laws.proofs.Matching.Final.{right_of}
use Rattle.mbe_semantics.proofs.InputLemmas.{lawful_input}
use Rattle.mbe_laws.proofs.Matching.RunLemmas.{runs_are_right, one_verdict}
use Rattle.mbe_semantics.specs.Matching.States.{state_count, state_number}
use Rattle.mbe_laws.specs.Bounded.States.{state_of}
use Rattle.mbe_laws.specs.Bounded.ClosureTwoEach.{times, first_two_each, closure_two_each}
use Rattle.mbe_laws.specs.Bounded.Run.{continue_bounded}
use Rattle.mbe_laws.specs.Bounded.Laws.{ClosureHasTwoEach}
use Rattle.mbe_laws.specs.Orders.Order.{Reordered, ReachesAnyhow, anyhow_start, anyhow_next, Order, Orders}
use Rattle.mbe_laws.specs.Orders.Order.{ReachesInOrder, order_start, order_next, run_in, verdict_in, reversed_order}
use Rattle.mbe_laws.specs.Orders.OrderLaws.{AnyOrderLaw, InOrderLaw, ReversedLaw, ReversedIterations, ReversedVerdict}
use Rattle.mbe_laws.specs.Orders.OrderLaws.{ReversedRunsAreRight, ReversedReadings, ReversedReadingFound}
use Rattle.mbe_laws.proofs.States.Sift.{met, times_visited, Full, Left, LeftTwo, sift_append, sift_full, from_sift}
use Rattle.mbe_laws.proofs.States.States.{state_move, next_alike, number-within, same-number}
use Rattle.mbe_laws.proofs.Run.Moves.{same-end, same-clash, same-width, two_each_once, two_each_one, two_each_two}
use Rattle.mbe_laws.proofs.Run.BoundedRun.{only_fits, Mirrors, mirrors_start, two_each-is, two_each-few, same_closed}
use Rattle.mbe_laws.proofs.Run.BoundedRun.{none_left, some_left, holds_two_each}
use Rattle.mbe_laws.proofs.Orders.Spare.{spare, from_spare, in_part, distinct_spare, parts_differ, two_times, no_longer}
use Rattle.mbe_laws.proofs.Orders.Spare.{turning}

-- where a target comes from
abbrev Source : Input → ℕ → PartialReading → List PartialReading → Type 0
Source i q y l = (x : PartialReading) × (n : ℕ) × (f : Bool) × In x l × (next i q x ≡ Some (move n f y))

source : (i : Input) (q : ℕ) (y : PartialReading) (l : List PartialReading) → In y (targets (moves_of i q l))
    → Source i q y l
source i q y l h =
    let r : (n : ℕ) × (f : Bool) × In (move n f y) (moves_of i q l) = from_targets y (moves_of i q l) h in
    let s : (x : PartialReading) × In x l × (next i q x ≡ Some (move r.0 r.1 y)) =
    from_filter (next i q) (move r.0 r.1 y) l r.2 in
    (s.0, r.0, r.1, s.1, s.2)

target : (i : Input) (q : ℕ) (x y : PartialReading) (l : List PartialReading) (n : ℕ) (f : Bool) → In x l
    → next i q x ≡ Some (move n f y) → In y (targets (moves_of i q l))
target i q x y l n f m e = in_targets n f y (moves_of i q l) (in_filter (next i q) x (move n f y) l m e)

-- what comes of one dot has one dot
goes_too : (m o : Option Move) (n : ℕ) (f : Bool) (u : PartialReading) → option_map state_move m
    ≡ option_map state_move o
    → o ≡ Some (move n f u) →
    (w : PartialReading) × (m ≡ Some (move n f w)) × (state_number w ≡ state_number u)
goes_too m None n f u e d = cc
goes_too None (Some (move k g v)) n f u e d = cc
goes_too (Some (move k g w)) (Some (move l h v)) n f u e d =
    let a : k ≡ n = cc in
    let b : g ≡ f = cc in
    let c : state_of w ≡ state_of u = cc in
    (w, ap (λ j. Some (move j g w)) a ∙ ap (λ j. Some (move n j w)) b, same-number w u c)

module _ (i : Input) (pat : Ops) (len : ℕ) (lawful : Lawful i len) (checked : Checked pat) where
  -- what comes to q is enough, with what a full run comes there with in some order
  abbrev pub Mirrored : ℕ → List PartialReading → Type 0
  Mirrored q xs = (zs : List PartialReading) × Mirrors i pat len lawful checked q xs zs

  module _ (q : ℕ) (xs zs : List PartialReading) (mirrors : Mirrors i pat len lawful checked q xs zs)
      (us : List PartialReading)
      (r : Reordered us (targets (moves_of i q (first_two_each (closure i q zs))))) where
    all : List PartialReading
    all = closure i q zs

    two : List PartialReading
    two = first_two_each (closure i q zs)

    left : List PartialReading
    left = spare state_number 2 [] (closure i q zs)

    all_at : (x : PartialReading) → In x (closure i q zs) → EndsAt i pat q x
    all_at x m = held-sound i pat len lawful checked q zs mirrors.inv x m

    all_once : Distinct trace (closure i q zs)
    all_once = held-once i pat len lawful checked q zs mirrors.inv

    apart : (x y : PartialReading) → In x (first_two_each (closure i q zs))
        → In y (spare state_number 2 [] (closure i q zs))
        → trace x ≡ trace y → ⊥
    apart x y a b = parts_differ state_number 2 trace [] (closure i q zs) all_once x y a b

    from_us : (y : PartialReading) → In y us → In y (targets (moves_of i q (closure i q zs)))
    from_us y h =
        let s : Source i q y (first_two_each (closure i q zs)) =
        source i q y (first_two_each (closure i q zs)) (r.only y h) in
        target i q s.0 y (closure i q zs) s.1 s.2 (from_sift state_number 2 [] (closure i q zs) s.0 s.3) s.4

    from_after : (y : PartialReading) → In y (targets (moves_of i q (spare state_number 2 [] (closure i q zs))))
        → In y (targets (moves_of i q (closure i q zs)))
    from_after y h =
        let s : Source i q y (spare state_number 2 [] (closure i q zs)) =
        source i q y (spare state_number 2 [] (closure i q zs)) h in
        target i q s.0 y (closure i q zs) s.1 s.2 (from_spare state_number 2 [] (closure i q zs) s.0 s.3) s.4

    pub ws : List PartialReading
    ws = us ++ targets (moves_of i q (spare state_number 2 [] (closure i q zs)))

    from_ws : (y : PartialReading) → In y (us ++ targets (moves_of i q (spare state_number 2 [] (closure i q zs))))
        → In y (targets (moves_of i q (closure i q zs)))
    from_ws y h = elim (in_either y us (targets (moves_of i q (spare state_number 2 [] (closure i q zs)))) h)
        [ inl m ↦ from_us y m | inr m ↦ from_after y m ]

    in_ws : (y : PartialReading) → In y (targets (moves_of i q (closure i q zs)))
        → In y (us ++ targets (moves_of i q (spare state_number 2 [] (closure i q zs))))
    in_ws y h = go (source i q y (closure i q zs) h)
      where
        go : Source i q y (closure i q zs)
            → In y (us ++ targets (moves_of i q (spare state_number 2 [] (closure i q zs))))
        go s = elim (in_part state_number 2 [] (closure i q zs) s.0 s.3) [
          | inl m ↦ in_left y us (targets (moves_of i q (spare state_number 2 [] (closure i q zs))))
              (r.every y (target i q s.0 y (first_two_each (closure i q zs)) s.1 s.2 m s.4))
          | inr m ↦ in_right y us (targets (moves_of i q (spare state_number 2 [] (closure i q zs))))
              (target i q s.0 y (spare state_number 2 [] (closure i q zs)) s.1 s.2 m s.4)
        ]

    ws_once : Distinct trace (us ++ targets (moves_of i q (spare state_number 2 [] (closure i q zs))))
    ws_once =
        distinct_append trace us (targets (moves_of i q (spare state_number 2 [] (closure i q zs)))) r.once
        (targets_distinct i pat q (spare state_number 2 [] (closure i q zs))
        (distinct_spare state_number 2 trace [] (closure i q zs) all_once)) across
      where
        across : (u v : PartialReading) → In u us
            → In v (targets (moves_of i q (spare state_number 2 [] (closure i q zs))))
            → trace u ≡ trace v → ⊥
        across u v a b e =
            let s : Source i q u (first_two_each (closure i q zs)) =
            source i q u (first_two_each (closure i q zs)) (r.only u a) in
            let t : Source i q v (spare state_number 2 [] (closure i q zs)) =
            source i q v (spare state_number 2 [] (closure i q zs)) b in
            apart s.0 t.0 s.3 t.3 (sym (next-after i q s.1 s.2 s.0 u s.4).0 ∙ ap before e
            ∙ (next-after i q t.1 t.2 t.0 v t.4).0)

    -- what is left out has its two
    two_of : (u : PartialReading) → In u (targets (moves_of i q (spare state_number 2 [] (closure i q zs))))
        → 2 ≤ times (state_number u) (map state_number us)
    two_of u h =
        let s : Source i q u (spare state_number 2 [] (closure i q zs)) =
        source i q u (spare state_number 2 [] (closure i q zs)) h in
        let a : EndsAt i pat q s.0 = all_at s.0 (from_spare state_number 2 [] (closure i q zs) s.0 s.3) in
        let o : Left state_number 2 [] (closure i q zs) (state_number s.0) =
        two_each_one i pat len lawful checked q zs mirrors.inv s.0 a in
        let t : LeftTwo state_number 2 trace [] (closure i q zs) (state_number s.0) =
        two_each_two i pat len lawful checked q zs mirrors.inv s.0 o.0 a
        (all_at o.0 (from_sift state_number 2 [] (closure i q zs) o.0 o.1)) (sym o.2)
        (λ e. apart o.0 s.0 o.1 s.3 (ap trace (sym e))) in
        let b : (w : PartialReading) × (next i q t.0 ≡ Some (move s.1 s.2 w)) × (state_number w ≡ state_number u) =
        goes_too (next i q t.0) (next i q s.0) s.1 s.2 u
        (next_alike i pat q t.0 s.0 (all_at t.0 (from_sift state_number 2 [] (closure i q zs) t.0 t.2)) a t.4) s.4 in
        let c : (w : PartialReading) × (next i q t.1 ≡ Some (move s.1 s.2 w)) × (state_number w ≡ state_number u) =
        goes_too (next i q t.1) (next i q s.0) s.1 s.2 u
        (next_alike i pat q t.1 s.0 (all_at t.1 (from_sift state_number 2 [] (closure i q zs) t.1 t.3)) a t.5) s.4 in
        two_times state_number 2 trace (state_number u) us b.0 c.0
        (r.every b.0 (target i q t.0 b.0 (first_two_each (closure i q zs)) s.1 s.2 t.2 b.1))
        (r.every c.0 (target i q t.1 c.0 (first_two_each (closure i q zs)) s.1 s.2 t.3 c.1)) b.2 c.2
        (λ e. t.6 (sym (next-after i q s.1 s.2 t.0 b.0 b.1).0 ∙ ap before e ∙ (next-after i q s.1 s.2 t.1 c.0 c.1).0))

    full : Full state_number 2 (met state_number [] us)
        (targets (moves_of i q (spare state_number 2 [] (closure i q zs))))
    full u h =
        let a : times (state_number u) (met state_number [] us)
        ≡ times (state_number u) (map state_number us) + times (state_number u) [] =
        times_visited state_number (state_number u) [] us in
        let b : 2 ≤ times (state_number u) (map state_number us) = two_of u h in
        omega (arith, a, b)

    two_each_ws : first_two_each us ≡ first_two_each (us
        ++ targets (moves_of i q (spare state_number 2 [] (closure i q zs))))
    two_each_ws =
        sym (sift_append state_number 2 [] us (targets (moves_of i q (spare state_number 2 [] (closure i q zs))))
        ∙ ap (λ l. first_two_each us ++ l) (sift_full state_number 2 (met state_number [] us)
        (targets (moves_of i q (spare state_number 2 [] (closure i q zs)))) full)
        ∙ append-nil (first_two_each us))

    pub mirrors_any : (m : ℕ) (g : Bool) (z : PartialReading) (ks : List Move) → moves_of i q (closure i q zs)
        ≡ move m g z ∷ ks
        → has_ambiguity (move m g z ∷ ks) ≡ false → Mirrored (q + m) us
    mirrors_any m g z ks e c =
        let v : Inv i pat (q + m) (targets (moves_of i q (closure i q zs))) =
        subst (λ l. Inv i pat (q + m) (targets l)) (sym e)
        (inv-next i pat len lawful checked q zs mirrors.inv m g z ks e c) in
        let f : (y : PartialReading) → In y (targets (moves_of i q (closure i q zs))) → fresh (trace y) ≡ true =
        λ y h. next_fresh i pat len lawful checked q zs mirrors.inv m g z ks e c y
        (subst (λ l. In y (targets l)) e h) in
        let w : Inv i pat (q + m) (us ++ targets (moves_of i q (spare state_number 2 [] (closure i q zs)))) = record {
          sound = λ y h. v.sound y (from_ws y h);
          once = ws_once;
          roots = inl (λ y h. f y (from_ws y h));
          all = λ y a b. in_ws y (v.all y a b);
          jump = v.jump;
          some = (v.some.0, in_ws v.some.0 v.some.1);
          calm = v.calm;
        } in
        let s : (y : PartialReading) → In y us → EndsAt i pat (q + m) y = λ y h. v.sound y (from_us y h) in (
          us ++ targets (moves_of i q (spare state_number 2 [] (closure i q zs))),
          record {
            inv = w;
            sound = s;
            same = same_closed i pat len lawful checked q xs zs mirrors (q + m) us
                (us ++ targets (moves_of i q (spare state_number 2 [] (closure i q zs)))) s w.sound two_each_ws;
          },
        )

  -- what the bounded run goes on with, the next time
  pub goes_any : (q n : ℕ) (f : Bool) (y : PartialReading) (ms : List Move) (xs us : List PartialReading)
      → Mirrored q xs
      → moves_of i q (closure_two_each i (state_count pat) q xs) ≡ move n f y ∷ ms →
      has_ambiguity (move n f y ∷ ms) ≡ false → Reordered us (targets (move n f y ∷ ms))
      → Mirrored (q + n) us × (0 < n) × (q + n ≤ len)
  goes_any q n f y ms xs us (zs, v) e c r = go (moves_of i q (closure i q zs)) refl
    where
      two_each_moves : moves_of i q (first_two_each (closure i q zs)) ≡ move n f y ∷ ms
      two_each_moves = ap (moves_of i q) (sym (two_each-is i pat len lawful checked q xs zs v)) ∙ e

      go : (ks : List Move) → moves_of i q (closure i q zs) ≡ ks → Mirrored (q + n) us × (0 < n) × (q + n ≤ len)
      go [] d = let w : move n f y ∷ ms ≡ [] = sym two_each_moves ∙ none_left i pat len lawful checked q xs zs v d in cc
      go (move m g z ∷ ks) d =
          let b : has_ambiguity (move m g z ∷ ks) ≡ false =
          ap has_ambiguity (sym d) ∙ sym (same-clash i pat len lawful checked q zs v.inv)
          ∙ ap has_ambiguity two_each_moves
          ∙ c in
          let w : m ≡ n = same-width i pat len lawful checked q zs v.inv n m f g y z ms ks two_each_moves d b in
          let s : (0 < m) × (q + m ≤ len) = some_width i pat len lawful checked q zs v.inv m g z ks d b in (
            subst (λ j. Mirrored (q + j) us) w (mirrors_any q xs zs v us
                (subst (λ l. Reordered us (targets l)) (sym two_each_moves) r) m g z ks d b),
            subst (λ j. 0 < j) w s.0,
            subst (λ j. q + j ≤ len) w s.1,
          )

  pub comes-any : {q : ℕ} {xs : List PartialReading} → ReachesAnyhow i pat q xs → Mirrored q xs
  comes-any anyhow_start = (start pat ∷ [], mirrors_start i pat len lawful checked)
  comes-any (anyhow_next q m n f y ms xs us h e c k r) =
      subst (λ p. Mirrored p us) (sym k) (goes_any q n f y ms xs us (comes-any h) e c r).0

  targets_short : (q : ℕ) (xs : List PartialReading) → length (targets (moves_of i q xs)) ≤ length xs
  targets_short q xs = Rattle.mbe_laws.proofs.Run.BoundedRun.targets_short i q xs

  pub few-any : {q : ℕ} {xs : List PartialReading} → ReachesAnyhow i pat q xs
      → length xs ≤ state_count pat + state_count pat
  few-any anyhow_start = let h : (0 < state_number (start pat)) × (state_number (start pat) ≤ state_count pat) =
      number-within i pat (start pat) (tt, refl) in let a = h.0 in let b = h.1 in omega (arith, a, b)
  few-any (anyhow_next q m n f y ms xs us h e c k r) =
      let v : Mirrored q xs = comes-any h in
      let a : length (targets (moves_of i q (closure_two_each i (state_count pat) q xs)))
      ≤ length (closure_two_each i (state_count pat) q xs) =
      targets_short q (closure_two_each i (state_count pat) q xs) in
      let b : length (targets (move n f y ∷ ms)) ≤ length (closure_two_each i (state_count pat) q xs) =
      subst (λ l. length (targets l) ≤ length (closure_two_each i (state_count pat) q xs)) e a in
      let d : length (closure_two_each i (state_count pat) q xs) ≤ state_count pat + state_count pat =
      subst (λ l. length l ≤ state_count pat + state_count pat)
      (sym (two_each-is i pat len lawful checked q xs v.0 v.1))
      (two_each-few i pat len lawful checked q xs v.0 v.1) in
      let g : length us ≤ length (targets (move n f y ∷ ms)) =
      no_longer trace us (targets (move n f y ∷ ms)) r.once r.only in
      omega (arith, b, d, g)

  module _ (order : Order) (orders : Orders order) where
    pub in_order : (q n m : ℕ) (f : Bool) (y : PartialReading) (ms : List Move) (xs : List PartialReading)
        → Mirrored q xs
        → moves_of i q (closure_two_each i (state_count pat) q xs) ≡ move n f y ∷ ms →
        Reordered (order m (targets (move n f y ∷ ms))) (targets (move n f y ∷ ms))
    in_order q n m f y ms xs (zs, v) e =
        orders m (targets (move n f y ∷ ms))
        (subst (λ l. Distinct trace (targets l))
        (ap (moves_of i q) (sym (two_each-is i pat len lawful checked q xs zs v)) ∙ e)
        (targets_distinct i pat q (first_two_each (closure i q zs))
        (two_each_once i pat len lawful checked q zs v.inv)))

    pub ordered-any : {q : ℕ} {xs : List PartialReading} → ReachesInOrder order i pat q xs → ReachesAnyhow i pat q xs
    ordered-any order_start = anyhow_start
    ordered-any (order_next q m n f y ms xs h e c k) =
        let p : ReachesAnyhow i pat q xs = ordered-any h in
        anyhow_next q m n f y ms xs (order m (targets (move n f y ∷ ms))) p e c k
        (in_order q n m f y ms xs (comes-any p) e)

    no_reading : (q : ℕ) (zs : List PartialReading) → Inv i pat q zs → moves_of i q (closure i q zs) ≡ []
        → (q ≡ len → ⊥)
        → q ≤ len → (is : Items) → Reading i pat len is → ⊥
    no_reading q zs v e d l is r =
        let b : offset (partial no_ops is []) ≤ q =
        last-place i pat len lawful checked q zs v e (partial no_ops is []) (tt, r.0) in
        let w : items_width is ≡ len = r.1 in
        d (omega (arith, b, w, l))

    at_end : (q : ℕ) (zs : List PartialReading) → Inv i pat q zs → q ≡ len
        → IsVerdictOn i pat len (verdict_of len (completions (closure i q zs)))
    at_end q zs v e =
        (subst (λ k. Inv i pat k zs → IsVerdictOn i pat len (verdict_of len (completions (closure i k zs))))
        (sym e)
        (λ w. right_of i pat len lawful checked zs w (completions (closure i len zs)) refl)) v

    -- the run returns the right verdict
    pub run-any : (n q : ℕ) (xs : List PartialReading) → Mirrored q xs → q ≤ len → len < n + q
        → IsVerdictOn i pat len (run_in order n i (state_count pat) len q xs)
    unfolding run_in
    run-any zero q xs v l m = absurd (omega (arith, l, m))
    run-any (suc n) q xs (zs, v) l m = turn (moves_of i q (closure_two_each i (state_count pat) q xs)) refl
        (λ k ys w a b. run-any n k ys w a b)
      where
        two : closure_two_each i (state_count pat) q xs ≡ first_two_each (closure i q zs)
        two = two_each-is i pat len lawful checked q xs zs v

        none : moves_of i q (closure_two_each i (state_count pat) q xs) ≡ [] → (ks : List Move)
            → moves_of i q (closure i q zs) ≡ ks
            → moves_of i q (closure i q zs) ≡ []
        none e [] d = d
        none e (move k g z ∷ ks) d = absurd (some_left i pat len lawful checked q xs zs v k g z ks d
            (ap (moves_of i q) (sym two) ∙ e))

        ended : (b : Bool) → (q == len) ≡ b → moves_of i q (closure i q zs) ≡ []
            → IsVerdictOn i pat len (if b then verdict_of len (completions (closure_two_each i (state_count pat) q xs))
            else stuck q)
        ended true k e = subst (IsVerdictOn i pat len)
            (sym (ap (λ ys. verdict_of len (completions ys)) two ∙ same-end len (closure i q zs)))
            (at_end q zs v.inv (eqb-true q len k))
        ended false k e = right-stuck i pat len lawful checked q zs v.inv e
            (no_reading q zs v.inv e (eqb-false q len k) l)

        further : (k : ℕ) (f : Bool) (y : PartialReading) (ms : List Move)
            → moves_of i q (closure_two_each i (state_count pat) q xs) ≡ move k f y ∷ ms →
            ((p : ℕ) (ys : List PartialReading) → Mirrored p ys → p ≤ len → len < n + p
            → IsVerdictOn i pat len (run_in order n i (state_count pat) len p ys)) →
            (b : Bool) → has_ambiguity (move k f y ∷ ms) ≡ b →
            IsVerdictOn i pat len (if b then ambiguous q else run_in order n i (state_count pat) len (q + k)
            (order (q + k) (targets (move k f y ∷ ms))))
        further k f y ms e ih true c =
            right-ambiguous i pat len lawful checked q zs v.inv
            (sym (same-clash i pat len lawful checked q zs v.inv) ∙ ap (λ ys. has_ambiguity (moves_of i q ys)) (sym two)
            ∙ ap has_ambiguity e ∙ c)
        further k f y ms e ih false c =
            let w : Mirrored (q + k) (order (q + k) (targets (move k f y ∷ ms))) × (0 < k) × (q + k ≤ len) =
            goes_any q k f y ms xs (order (q + k) (targets (move k f y ∷ ms))) (zs, v) e c
            (in_order q k (q + k) f y ms xs (zs, v) e) in
            ih (q + k) (order (q + k) (targets (move k f y ∷ ms))) w.0 w.2 (let a = w.1 in omega (arith, a, m))

        turn : (ms : List Move) → moves_of i q (closure_two_each i (state_count pat) q xs) ≡ ms →
            ((p : ℕ) (ys : List PartialReading) → Mirrored p ys → p ≤ len → len < n + p
            → IsVerdictOn i pat len (run_in order n i (state_count pat) len p ys)) →
            IsVerdictOn i pat len (continue_bounded len q (closure_two_each i (state_count pat) q xs)
            (λ k ys. run_in order n i (state_count pat) len k (order k ys)) ms)
        turn [] e ih = ended (q == len) refl (none e (moves_of i q (closure i q zs)) refl)
        turn (move k f y ∷ ms) e ih = further k f y ms e ih (has_ambiguity (move k f y ∷ ms)) refl

-- ---- where the run finds one reading

abbrev OneAt : Order → Input → Ops → ℕ → Type 0
OneAt order i pat len = (xs : List PartialReading) × (is : Items) × ReachesInOrder order i pat len xs
    × (completions (closure_two_each i (state_count pat) len xs) ≡ is ∷ [])

one_counted : {A : Type 0} (len : ℕ) (rs : List A) → verdict_of len rs ≡ one_reading → (r : A) × (rs ≡ r ∷ [])
one_counted len [] e = cc
one_counted len (r ∷ []) e = (r, refl)
one_counted len (r ∷ t ∷ rs) e = cc

found : (order : Order) (i : Input) (pat : Ops) (len n q : ℕ) (xs : List PartialReading)
    → ReachesInOrder order i pat q xs
    → run_in order n i (state_count pat) len q xs ≡ one_reading → OneAt order i pat len
unfolding run_in
found order i pat len zero q xs h e = cc
found order i pat len (suc n) q xs h e =
    go (moves_of i q (closure_two_each i (state_count pat) q xs)) refl e (λ p ys a b. found order i pat len n p ys a b)
  where
    ended : (b : Bool) → (q == len) ≡ b
        → (if b then verdict_of len (completions (closure_two_each i (state_count pat) q xs)) else
        stuck q) ≡ one_reading → OneAt order i pat len
    ended true d f =
        let r : (is : Items) × (completions (closure_two_each i (state_count pat) q xs) ≡ is ∷ []) =
        one_counted len (completions (closure_two_each i (state_count pat) q xs)) f in
        subst (OneAt order i pat) (eqb-true q len d) (xs, r.0, h, r.1)
    ended false d f = cc

    further : (m : ℕ) (f : Bool) (y : PartialReading) (ms : List Move)
        → moves_of i q (closure_two_each i (state_count pat) q xs) ≡ move m f y ∷ ms → (b : Bool)
        → has_ambiguity (move m f y ∷ ms) ≡ b
        →
        (if b then ambiguous q else run_in order n i (state_count pat) len (q + m)
        (order (q + m) (targets (move m f y ∷ ms))))
        ≡ one_reading →
        ((p : ℕ) (ys : List PartialReading) → ReachesInOrder order i pat p ys
        → run_in order n i (state_count pat) len p ys ≡ one_reading
        → OneAt order i pat len) → OneAt order i pat len
    further m f y ms d true c a ih = cc
    further m f y ms d false c a ih = ih (q + m) (order (q + m) (targets (move m f y ∷ ms)))
        (order_next q (q + m) m f y ms xs h d c refl) a

    go : (ms : List Move) → moves_of i q (closure_two_each i (state_count pat) q xs) ≡ ms →
        continue_bounded len q (closure_two_each i (state_count pat) q xs)
        (λ k ys. run_in order n i (state_count pat) len k (order k ys))
        ms ≡ one_reading →
        ((p : ℕ) (ys : List PartialReading) → ReachesInOrder order i pat p ys
        → run_in order n i (state_count pat) len p ys ≡ one_reading
        → OneAt order i pat len) → OneAt order i pat len
    go [] d a ih = ended (q == len) refl a
    go (move m f y ∷ ms) d a ih = further m f y ms d (has_ambiguity (move m f y ∷ ms)) refl a ih

-- ---- the laws

pub any_order_law : AnyOrderLaw
any_order_law g pat argument w k = record {
  right = λ q xs h.
      let r : Mirrored (input_of g argument) pat (flat_len argument) l k q xs = comes-any _ _ _ l k h in
      subst (ClosureHasTwoEach g pat argument q) (sym (two_each-is _ _ _ l k q xs r.0 r.1))
      (holds_two_each g pat argument w k q xs r.0 l k r.1);
  few = λ q xs h. let a : length xs ≤ state_count pat + state_count pat = few-any _ _ _ l k h in (a, omega (arith, a));
  readings = λ xs h is e.
      let r : Mirrored (input_of g argument) pat (flat_len argument) l k (flat_len argument) xs =
      comes-any _ _ _ l k h in
      only_fits _ _ _ l k xs r.0 is r.1 e;
}
  where
    l : Lawful (input_of g argument) (flat_len argument)
    l = lawful_input g argument w

pub in_order_law : InOrderLaw
unfolding verdict_in
in_order_law order o g pat argument w k = record {
  anyhow = λ q xs h. ordered-any _ _ _ l k order o h;
  same = one_verdict g pat argument (verdict_in order g pat argument) (verdict g pat argument) right
      (runs_are_right g pat argument w k);
  right = right;
  reading_found = λ e.
      let r : OneAt order (input_of g argument) pat (flat_len argument) =
      found order (input_of g argument) pat (flat_len argument) (suc (flat_len argument)) 0 (start pat ∷ [])
      order_start e in (
        r.0,
        r.1,
        r.2,
        r.3,
        (any_order_law g pat argument w k).readings r.0 (ordered-any _ _ _ l k order o r.2) r.1
            r.3,
      );
}
  where
    l : Lawful (input_of g argument) (flat_len argument)
    l = lawful_input g argument w

    right : IsVerdict g pat argument (run_in order (suc (flat_len argument)) (input_of g argument) (state_count pat)
        (flat_len argument) 0 (start pat ∷ []))
    right = run-any _ _ _ l k order o (suc (flat_len argument)) 0 (start pat ∷ [])
        (start pat ∷ [], mirrors_start _ _ _ l k) (omega arith) (omega arith)

pub reversed_law : ReversedLaw
reversed_law g pat argument w k q xs h = (any_order_law g pat argument w k).right q xs
    ((in_order_law reversed_order turning g pat argument w k).anyhow q xs h)

pub reversed_iterations : ReversedIterations
reversed_iterations g pat argument w k q xs h = (any_order_law g pat argument w k).few q xs
    ((in_order_law reversed_order turning g pat argument w k).anyhow q xs h)

pub reversed_verdict : ReversedVerdict
reversed_verdict g pat argument w k = (in_order_law reversed_order turning g pat argument w k).same

pub reversed_runs_are_right : ReversedRunsAreRight
reversed_runs_are_right g pat argument w k = (in_order_law reversed_order turning g pat argument w k).right

pub reversed_readings : ReversedReadings
reversed_readings g pat argument w k xs h is e =
    (any_order_law g pat argument w k).readings xs
    ((in_order_law reversed_order turning g pat argument w k).anyhow (flat_len argument) xs h) is e

pub reversed_reading_found : ReversedReadingFound
reversed_reading_found g pat argument w k e = (in_order_law reversed_order turning g pat argument w k).reading_found e
