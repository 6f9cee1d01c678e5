-- A run returns the right verdict.
use Rattle.std.proofs.Common.{ℕ, zero, suc, ◌+◌, ◌≡◌, ◌⊎◌, ◌<◌, ◌≤◌, inl, inr, Bool, true, false, List, [], ◌∷◌, refl}
use Rattle.std.proofs.Common.{sym, ◌∙◌, ap, subst, arith, eqb-true}
use Rattle.std.specs.Prelude.{if◌then◌else◌, ◌==◌}
use Rattle.std.proofs.lemmas.Bool.{eqb-false}
use Rattle.mbe_tt.specs.Trees.Tree.{Forest, flat_len}
use Rattle.mbe_tt.specs.Grammars.Grammar.{Grammar, IsLawful}
use Rattle.mbe_semantics.specs.Syntax.Op.{Ops, no_ops}
use Rattle.mbe_semantics.specs.Readings.Item.{Items, items_width}
use Rattle.mbe_semantics.specs.Readings.Input.{Input, input_of}
use Rattle.mbe_semantics.specs.Readings.Reading.{PartialReading, partial, offset, start, Reading}
use Rattle.mbe_semantics.specs.Readings.Steps.{Move, move}
use Rattle.mbe_semantics.specs.Matching.Closure.{closure, moves_of, targets, completions, has_ambiguity}
use Rattle.mbe_semantics.specs.Syntax.Nullable.{Checked}
use Rattle.mbe_semantics.specs.Laws.Lawful.{Lawful}
use Rattle.mbe_semantics.specs.Readings.Verdict.{Verdict, ambiguous, stuck, IsVerdictOn, IsVerdict, verdict_of}
use Rattle.mbe_semantics.specs.Readings.Verdict.{one_reading, many_readings}
use Rattle.mbe_semantics.specs.Matching.Run.{run, continue_run, verdict, Reaches, at_start, at_next}
use Rattle.mbe_semantics.specs.Laws.Laws.{MatcherLaw, RunsAreRight, OneVerdict, HasOneVerdict}
use Rattle.mbe_laws.proofs.Matching.Law.{Inv, held-sound, held-once, held-all}
use Rattle.mbe_laws.proofs.Matching.Advance.{inv-start, inv-next, some_width, right-ambiguous, right-stuck, last-place}
use Rattle.mbe_laws.proofs.Matching.Final.{right_of}
use Rattle.mbe_semantics.proofs.InputLemmas.{lawful_input}

module _ (i : Input) (pat : Ops) (len : ℕ) (lawful : Lawful i len) (checked : Checked pat) where
  at_end : (q : ℕ) (xs : List PartialReading) → Inv i pat q xs → q ≡ len
      → IsVerdictOn i pat len (verdict_of len (completions (closure i q xs)))
  at_end q xs v e =
      (subst (λ k. Inv i pat k xs → IsVerdictOn i pat len (verdict_of len (completions (closure i k xs)))) (sym e)
      (λ w. right_of i pat len lawful checked xs w (completions (closure i len xs)) refl)) v

  no_reading : (q : ℕ) (xs : List PartialReading) → Inv i pat q xs → moves_of i q (closure i q xs) ≡ [] → (q ≡ len → ⊥)
      → q ≤ len → (is : Items) → Reading i pat len is → ⊥
  no_reading q xs v e d l is r =
      let b : offset (partial no_ops is []) ≤ q =
      last-place i pat len lawful checked q xs v e (partial no_ops is []) (tt, r.0) in
      let w : items_width is ≡ len = r.1 in
      d (omega (arith, b, w, l))

  pub run-right : (n q : ℕ) (xs : List PartialReading) → Inv i pat q xs → q ≤ len → len < n + q
      → IsVerdictOn i pat len (run n i len q xs)
  unfolding run
  run-right zero q xs v l m = absurd (omega (arith, l, m))
  run-right (suc n) q xs v l m = turn (moves_of i q (closure i q xs)) refl (λ k ys w a b. run-right n k ys w a b)
    where
      ended : (b : Bool) → (q == len) ≡ b → moves_of i q (closure i q xs) ≡ []
          → IsVerdictOn i pat len (if b then verdict_of len (completions (closure i q xs)) else stuck q)
      ended true k e = at_end q xs v (eqb-true q len k)
      ended false k e = right-stuck i pat len lawful checked q xs v e (no_reading q xs v e (eqb-false q len k) l)

      further : (k : ℕ) (f : Bool) (y : PartialReading) (ms : List Move) → moves_of i q (closure i q xs) ≡ move k f y
          ∷ ms →
          ((k' : ℕ) (ys : List PartialReading) → Inv i pat k' ys → k' ≤ len → len < n + k'
          → IsVerdictOn i pat len (run n i len k' ys)) →
          (b : Bool) → has_ambiguity (move k f y ∷ ms) ≡ b →
          IsVerdictOn i pat len (if b then ambiguous q else run n i len (q + k) (targets (move k f y ∷ ms)))
      further k f y ms e ih true c = right-ambiguous i pat len lawful checked q xs v (ap has_ambiguity e ∙ c)
      further k f y ms e ih false c =
          let w : (0 < k) × (q + k ≤ len) = some_width i pat len lawful checked q xs v k f y ms e c in
          ih (q + k) (targets (move k f y ∷ ms)) (inv-next i pat len lawful checked q xs v k f y ms e c) w.1
          (let a = w.0 in omega (arith, a, m))

      turn : (ms : List Move) → moves_of i q (closure i q xs) ≡ ms →
          ((k : ℕ) (ys : List PartialReading) → Inv i pat k ys → k ≤ len → len < n + k
          → IsVerdictOn i pat len (run n i len k ys))
          →
          IsVerdictOn i pat len (continue_run i len q xs (λ k ys. run n i len k ys) ms)
      turn [] e ih = ended (q == len) refl e
      turn (move k f y ∷ ms) e ih = further k f y ms e ih (has_ambiguity (move k f y ∷ ms)) refl

-- the run's answer is the verdict
pub verdict-right : (g : Grammar) (pattern : Ops) (argument : Forest) → IsLawful g → Checked pattern
    → IsVerdict g pattern argument (verdict g pattern argument)
unfolding verdict
verdict-right g pattern argument w c =
    run-right (input_of g argument) pattern (flat_len argument) (lawful_input g argument w) c (suc (flat_len argument))
    0 (start pattern ∷ [])
    (inv-start (input_of g argument) pattern (flat_len argument) (lawful_input g argument w) c) (omega arith)
    (omega arith)

comes-inv : (i : Input) (pat : Ops) (len : ℕ) → Lawful i len → Checked pat → {q : ℕ} {xs : List PartialReading}
    → Reaches i pat q xs → Inv i pat q xs
comes-inv i pat len w c at_start = inv-start i pat len w c
comes-inv i pat len w c (at_next q m n f y ms xs h e d k) =
    subst (λ p. Inv i pat p (targets (move n f y ∷ ms))) (sym k)
    (inv-next i pat len w c q xs (comes-inv i pat len w c h) n f y ms e d)

pub matcher_law : MatcherLaw
matcher_law g pattern argument w c q xs h = record {
  partial_readings = held-sound i pattern len l c q xs v;
  once = held-once i pattern len l c q xs v;
  all = held-all i pattern len l c q xs v;
}
  where
    i : Input
    i = input_of g argument

    len : ℕ
    len = flat_len argument

    l : Lawful i len
    l = lawful_input g argument w

    v : Inv i pattern q xs
    v = comes-inv i pattern len l c h

pub runs_are_right : RunsAreRight
runs_are_right = verdict-right

one_of_three : (q p : ℕ) → (q ≡ p) ⊎ ((q < p) ⊎ (p < q))
one_of_three q p = grind arith

one_of : (i : Input) (pat : Ops) (len : ℕ) (v w : Verdict) → IsVerdictOn i pat len v → IsVerdictOn i pat len w → v ≡ w
one_of i pat len (ambiguous q) (ambiguous p) a b =
    elim (one_of_three q p) [
      | inl e ↦ ap ambiguous e
      | inr d ↦ elim d
          [ inl l ↦ absurd (b.1 q l a.0) | inr l ↦ absurd (a.1 p l b.0) ]
    ]
one_of i pat len (ambiguous q) one_reading a b = absurd (b.0 q a.0)
one_of i pat len (ambiguous q) many_readings a b = absurd (b.0 q a.0)
one_of i pat len (ambiguous q) (stuck p) a b = absurd (b.0 q a.0)
one_of i pat len one_reading (ambiguous p) a b = absurd (a.0 p b.0)
one_of i pat len one_reading one_reading a b = refl
one_of i pat len one_reading many_readings a b = absurd (b.1.4 (a.1.1.1 b.1.0 b.1.2 ∙ sym (a.1.1.1 b.1.1 b.1.3)))
one_of i pat len one_reading (stuck p) a b = absurd (b.1 a.1.0 a.1.1.0)
one_of i pat len many_readings (ambiguous p) a b = absurd (a.0 p b.0)
one_of i pat len many_readings one_reading a b = absurd (a.1.4 (b.1.1.1 a.1.0 a.1.2 ∙ sym (b.1.1.1 a.1.1 a.1.3)))
one_of i pat len many_readings many_readings a b = refl
one_of i pat len many_readings (stuck p) a b = absurd (b.1 a.1.0 a.1.2)
one_of i pat len (stuck q) (ambiguous p) a b = absurd (a.0 p b.0)
one_of i pat len (stuck q) one_reading a b = absurd (a.1 b.1.0 b.1.1.0)
one_of i pat len (stuck q) many_readings a b = absurd (a.1 b.1.0 b.1.2)
one_of i pat len (stuck q) (stuck p) a b =
    let l : offset a.2.0 ≤ p = b.3 a.2.0 a.2.1.0 in
    let m : offset b.2.0 ≤ q = a.3 b.2.0 b.2.1.0 in
    let e : offset a.2.0 ≡ q = a.2.1.1 in
    let f : offset b.2.0 ≡ p = b.2.1.1 in
    ap stuck (omega (arith, l, m, e, f))

pub one_verdict : OneVerdict
one_verdict g pattern argument v w = one_of (input_of g argument) pattern (flat_len argument) v w

pub has_one_verdict : HasOneVerdict
has_one_verdict g pattern argument w c = (
  verdict g pattern argument,
  verdict-right g pattern argument w c,
  λ v h. one_verdict g pattern argument v (verdict g pattern argument) h (verdict-right g pattern argument w c),
)
