-- The pass comes to the place where the match stops.
use Rattle.std.proofs.Common.{ℕ, ◌+◌, ◌≡◌, ◌<◌, ◌≤◌, ◌⊎◌, inl, inr, Some, Bool, true, false, List, [], ◌∷◌, refl, sym}
use Rattle.std.proofs.Common.{◌∙◌, ap, subst, arith, eq-or-lt_of_le}
use Rattle.std.specs.Prelude.{nat_lt}
use Rattle.std.proofs.lemmas.Bool.{ltb-true, ltb-false}
use Rattle.mbe_tt.specs.Trees.Tree.{Forest, flat_len}
use Rattle.mbe_tt.specs.Grammars.Grammar.{Grammar, IsLawful}
use Rattle.mbe_semantics.specs.Syntax.Op.{Ops, no_ops}
use Rattle.mbe_semantics.specs.Syntax.Nullable.{Checked}
use Rattle.mbe_semantics.specs.Laws.Lawful.{Lawful}
use Rattle.mbe_semantics.specs.Readings.Item.{Items, items_width}
use Rattle.mbe_semantics.specs.Readings.Input.{Input, input_of}
use Rattle.mbe_semantics.specs.Readings.Reading.{PartialReading, partial, offset, IsPartialReading, EndsAt, start}
use Rattle.mbe_semantics.specs.Readings.Reading.{Reading}
use Rattle.mbe_semantics.specs.Readings.Steps.{Move, move, next}
use Rattle.mbe_semantics.specs.Readings.Verdict.{Verdict, one_reading, many_readings, ambiguous, stuck, IsVerdict}
use Rattle.mbe_semantics.specs.Readings.Verdict.{stop_of}
use Rattle.mbe_semantics.specs.Matching.Lists.{In}
use Rattle.mbe_semantics.specs.Matching.Trace.{trace, steps}
use Rattle.mbe_semantics.specs.Matching.Closure.{closure, moves_of, has_ambiguity}
use Rattle.mbe_semantics.proofs.InputLemmas.{lawful_input}
use Rattle.mbe_semantics.proofs.Parents.{Moves, From, parents}
use Rattle.mbe_laws.proofs.Matching.Moves.{next-takes}
use Rattle.mbe_laws.proofs.Matching.Ambiguities.{in_filter, clear_with}
use Rattle.mbe_laws.proofs.Matching.Law.{Inv, by_steps, held-all, moves_steps, idles_steps}
use Rattle.mbe_laws.proofs.Matching.Advance.{last-place, some_width}
use Rattle.mbe_matcher.specs.FirstAndLast.{AdvancesToStop, ModelPassContinues}
use Rattle.mbe_matcher.proofs.TwoEnds.{known, clear_moves}
use Rattle.mbe_matcher.proofs.KeptEnds.{ReportPass, passes, pass_width}

module _ (i : Input) (pattern : Ops) (len : ℕ) (lawful : Lawful i len) (checked : Checked pattern) (q : ℕ)
    (xs : List PartialReading) (v : Inv i pattern q xs)
    (n : ℕ) (f : Bool) (y0 : PartialReading) (ms : List Move) (e : moves_of i q (closure i q xs) ≡ move n f y0 ∷ ms)
    (c : has_ambiguity (move n f y0 ∷ ms) ≡ false) where
  width : (x y : PartialReading) → IsPartialReading i pattern x → offset x ≡ q → (m : Moves i x y) → offset y ≡ q + n
  width x y b p m =
      let h : In (move m.0 m.1 y) (moves_of i q (closure i q xs)) =
      in_filter (next i q) x (move m.0 m.1 y) (closure i q xs) (held-all i pattern len lawful checked q xs v x (b, p))
      (subst (λ r. next i r x ≡ Some (move m.0 m.1 y)) p m.2) in
      let w : n ≡ m.0 = same (subst (λ l. In (move m.0 m.1 y) l) e h) in
      let d : offset y ≡ offset x + m.0 = m.3 in
      omega (arith, w, d, p)
    where
      same : In (move m.0 m.1 y) (move n f y0 ∷ ms) → n ≡ m.0
      same (inl k) = let u : m.0 ≡ n = cc in sym u
      same (inr h) = (clear_with n f ms c m.0 m.1 y h).2

  -- no beginning ends between the place and the next
  none_between : (y : PartialReading) → IsPartialReading i pattern y → offset y < q + n → offset y ≤ q
  none_between = by_steps i pattern len lawful checked (λ y. IsPartialReading i pattern y → offset y < q + n
      → offset y ≤ q)
      (λ y ih b l. turn y ih l (parents i pattern y b))
    where
      jump : (x y : PartialReading) → IsPartialReading i pattern x → Moves i x y → offset y < q + n → (offset x ≡ q)
          ⊎ (offset x < q)
          → offset y ≤ q
      jump x y b m k (inl p) = let d : offset y ≡ q + n = width x y b p m in absurd (omega (arith, d, k))
      jump x y b m k (inr p) = v.jump x y b m p

      turn : (y : PartialReading) → ((x : PartialReading) → steps (trace x) < steps (trace y)
          → IsPartialReading i pattern x
          → offset x < q + n → offset x ≤ q) → offset y < q + n →
          ((y ≡ start pattern) ⊎ From i pattern y) → offset y ≤ q
      turn y ih k (inl p) = let d : offset y ≡ 0 = ap offset p in omega (arith, d)
      turn y ih k (inr (x, b, inl s)) =
          let d : offset y ≡ offset x = s.1 in
          let l : offset x ≤ q = ih x (idles_steps i pattern len lawful checked x y s) b (omega (arith, d, k)) in
          omega (arith, d, l)
      turn y ih k (inr (x, b, inr m)) =
          let t : (0 < m.0) × (offset x + m.0 ≤ len) = next-takes i len (offset x) m.0 m.1 x y lawful m.2 in
          let t0 = t.0 in
          let d : offset y ≡ offset x + m.0 = m.3 in
          jump x y b m k (eq-or-lt_of_le (ih x (moves_steps i pattern len lawful checked x y m) b
          (omega (arith, t0, d, k))))

-- a beginning ends where the match stops
at_stop : (g : Grammar) (pattern : Ops) (argument : Forest) (v : Verdict) → IsVerdict g pattern argument v
    → (x : PartialReading) × EndsAt (input_of g argument) pattern (stop_of argument v) x
at_stop g pattern argument one_reading is = read (is.1.0) (is.1.1.0)
  where
    read : (is : Items) → Reading (input_of g argument) pattern (flat_len argument) is
        → (x : PartialReading) × EndsAt (input_of g argument) pattern (flat_len argument) x
    read is r = let w : items_width is ≡ flat_len argument =
        r.1 in (partial no_ops is [], ((tt, r.0), omega (arith, w)))
at_stop g pattern argument many_readings is = read (is.1.0) (is.1.2)
  where
    read : (is : Items) → Reading (input_of g argument) pattern (flat_len argument) is
        → (x : PartialReading) × EndsAt (input_of g argument) pattern (flat_len argument) x
    read is r = let w : items_width is ≡ flat_len argument =
        r.1 in (partial no_ops is [], ((tt, r.0), omega (arith, w)))
at_stop g pattern argument (ambiguous p) is = let a = is.0 in (a.one, a.one_at)
at_stop g pattern argument (stuck p) is = is.2

-- a beginning ends in the argument
offset_within : (i : Input) (pattern : Ops) (len : ℕ) (lawful : Lawful i len) → Checked pattern → (y : PartialReading)
    → IsPartialReading i pattern y → offset y ≤ len
offset_within i pattern len lawful checked =
    by_steps i pattern len lawful checked (λ y. IsPartialReading i pattern y → offset y ≤ len)
    (λ y ih b. turn y ih (parents i pattern y b))
  where
    turn : (y : PartialReading) → ((x : PartialReading) → steps (trace x) < steps (trace y)
        → IsPartialReading i pattern x → offset x ≤ len)
        → ((y ≡ start pattern) ⊎ From i pattern y) → offset y ≤ len
    turn y ih (inl p) = let d : offset y ≡ 0 = ap offset p in omega (arith, d)
    turn y ih (inr (x, b, inl s)) =
        let d : offset y ≡ offset x = s.1 in
        let l : offset x ≤ len = ih x (idles_steps i pattern len lawful checked x y s) b in omega (arith, d, l)
    turn y ih (inr (x, b, inr m)) =
        let t : (0 < m.0) × (offset x + m.0 ≤ len) = next-takes i len (offset x) m.0 m.1 x y lawful m.2 in
        let t1 = t.1 in
        let d : offset y ≡ offset x + m.0 = m.3 in omega (arith, t1, d)

pub stop_within : (g : Grammar) (pattern : Ops) (argument : Forest) → IsLawful g → Checked pattern → (v : Verdict)
    → IsVerdict g pattern argument v → stop_of argument v ≤ flat_len argument
stop_within g pattern argument w checked v is =
    let s : (x : PartialReading) × EndsAt (input_of g argument) pattern (stop_of argument v) x =
    at_stop g pattern argument v is in
    let far : offset s.0 ≡ stop_of argument v = s.1.1 in
    let l : offset s.0 ≤ flat_len argument =
    offset_within (input_of g argument) pattern (flat_len argument) (lawful_input g argument w) checked s.0 s.1.0 in
    omega (arith, far, l)

pub continues : ModelPassContinues
continues g pattern argument w checked v is q os ps before h l = go (moves_of i q (closure i q p.xs)) refl
  where
    i : Input
    i = input_of g argument

    p : ReportPass g pattern argument w checked q os ps before
    p = passes g pattern argument w checked v is h (omega (arith, l))

    inv : Inv i pattern q p.xs
    inv = known g pattern argument w checked p.comes

    stop : (x : PartialReading) × EndsAt i pattern (stop_of argument v) x
    stop = at_stop g pattern argument v is

    far : offset stop.0 ≡ stop_of argument v
    far = stop.1.1

    go : (ms : List Move) → moves_of i q (closure i q p.xs) ≡ ms → AdvancesToStop i pattern (stop_of argument v) q os
    go [] e =
        let a : offset stop.0 ≤ q = last-place i pattern (flat_len argument) (lawful_input g argument w) checked q p.xs
        inv e stop.0 stop.1.0 in
        let b = far in absurd (omega (arith, a, b, l))
    go (move n f y ∷ ms) e =
        let c : has_ambiguity (moves_of i q (closure i q p.xs)) ≡ false =
        clear_moves g pattern argument w checked v is q p.xs inv l (has_ambiguity (moves_of i q (closure i q p.xs)))
        refl in
        let k : has_ambiguity (move n f y ∷ ms) ≡ false = ap has_ambiguity (sym e) ∙ c in
        let s : (0 < n) × (q + n ≤ flat_len argument) =
        some_width i pattern (flat_len argument) (lawful_input g argument w) checked q p.xs inv n f y ms e k in
        record {
          width = n;
          is = pass_width g pattern argument w checked q os ps before p n f y ms e;
          some = s.0;
          within = end n (λ t. none_between i pattern (flat_len argument) (lawful_input g argument w) checked q p.xs inv
              n f y ms e k stop.0 stop.1.0 t) (nat_lt (offset stop.0) (q + n)) refl;
        }
      where
        end : (n : ℕ) → (offset stop.0 < q + n → offset stop.0 ≤ q) → (b : Bool) → nat_lt (offset stop.0) (q + n) ≡ b
            → q + n ≤ stop_of argument v
        end n t true a = let b = far in let u : offset stop.0 ≤ q =
            t (ltb-true (offset stop.0) (q + n) a) in absurd (omega (arith, u, b, l))
        end n t false a = let b = far in let u : q + n ≤ offset stop.0 =
            ltb-false (offset stop.0) (q + n) a in omega (arith, u, b)
