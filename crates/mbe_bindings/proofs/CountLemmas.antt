-- Counts that stop at a bound.
use Rattle.std.specs.Prelude.{◌≡◌, ◌+◌, ◌<◌, ◌≤◌, ◌⊎◌, ℕ, min, List, ◌∷◌, length, drop}
use Rattle.std.proofs.Common.{ap, sym, ◌∙◌, arith, inl, inr, get_or}
use Rattle.std.proofs.Math.Nat.{min-eq_left, min-eq_right}
use Rattle.std.proofs.lemmas.Bool.{cases_lt}
use Rattle.std.proofs.lemmas.List.{drop_more, drop_all}
use Rattle.mbe_semantics.specs.Bindings.Environment.{binding_count, binding_counts}
use Rattle.mbe_bindings.specs.declared.bindings.Binding.{Binding}
use Rattle.mbe_bindings.specs.BindingViews.{value_seen, values_seen}

-- what stops early stops all the same
pub stopped : (most c b r : ℕ) → min (min (c + min b most) most + r) most ≡ min (c + (b + r)) most
stopped most c b r = go (cases_lt b most) (cases_lt (c + min b most) most)
  where
    go : (b < most) ⊎ (most ≤ b) → (c + min b most < most) ⊎ (most ≤ c + min b most)
        → min (min (c + min b most) most + r) most ≡ min (c + (b + r)) most
    go (inl l) (inl k) =
        let e : min b most ≡ b = min-eq_left (omega (arith, l)) in
        let f : min (c + min b most) most ≡ c + min b most = min-eq_left (omega (arith, k)) in
        ap (λ n. min n most) (omega (arith, e, f))
    go (inl l) (inr k) =
        let e : min b most ≡ b = min-eq_left (omega (arith, l)) in
        let f : min (c + min b most) most ≡ most = min-eq_right k in
        min-eq_right (omega (arith, f)) ∙ sym (min-eq_right (omega (arith, e, k)))
    go (inr l) k =
        let e : min b most ≡ most = min-eq_right l in
        let f : min (c + min b most) most ≡ most = min-eq_right (omega (arith, e)) in
        min-eq_right (omega (arith, f)) ∙ sym (min-eq_right (omega (arith, l)))

-- one value more of a list
pub counts_step : {A : Type 0} (xs : List (Binding A)) (i : ℕ) (x : Binding A) → i < length xs → x ≡ get_or xs i x
    → binding_counts (values_seen (drop i xs))
    ≡ binding_count (value_seen x) + binding_counts (values_seen (drop (i + 1) xs))
counts_step xs i x h e = ap (λ ys. binding_counts (values_seen ys))
    (drop_more xs i x h ∙ ap (λ y. y ∷ drop (i + 1) xs) (sym e))

pub counts_end : {A : Type 0} (xs : List (Binding A)) (i : ℕ) → length xs ≤ i
    → binding_counts (values_seen (drop i xs)) ≡ 0
counts_end xs i h = ap (λ ys. binding_counts (values_seen ys)) (drop_all i xs h)
