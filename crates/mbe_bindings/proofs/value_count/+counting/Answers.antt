use Rattle.std.proofs.Common.{◌≡◌, ℕ, ◌+◌, min, ap, sym, ◌∙◌, arith, drop}
use Rattle.std.proofs.Math.Nat.{min-eq_left}
use Rattle.mbe_semantics.specs.Bindings.Environment.{binding_count, binding_counts}
use Rattle.mbe_bindings.specs.BindingViews.{value_seen, values_seen}
use Rattle.mbe_bindings.proofs.CountLemmas.{stopped, counts_step, counts_end}
use Rattle.mbe_bindings.proofs.value_count.+counting.Goals as goal

pub binding_counts-loop-value-preserved : goal.binding_counts-loop-value-preserved
binding_counts-loop-value-preserved g t c =
    let xs = c.args.values.now in
    let i = c.loop-value.value-index in
    let x = c.value-item.result in
    let count = c.loop-value.count in
    let more = c.saturating_add-count.result in
    let b = binding_count (value_seen x) in
    let rest = binding_counts (values_seen (drop (i + 1) xs)) in
    let most : ℕ = 18446744073709551615 in
    let step : binding_counts (values_seen (drop i xs)) ≡ b + rest =
    counts_step xs i x c.loop-value-test.true c.value-item.is in
    let now : more ≡ min (count + min b most) most =
    c.saturating_add-count.ensures ∙ ap (λ n. min (count + n) most) c.binding_count.ensures in
    record {
      counted = c.loop-value.invariant.counted ∙ ap (λ n. min (count + n) most) step
          ∙ sym (ap (λ n. min (n + rest) most) now ∙ stopped most count b rest);
      most = let l = c.saturating_add-count.type_inv in omega (arith, l);
    }

pub binding_counts-returns : goal.binding_counts-returns
binding_counts-returns g t c =
    let xs = c.args.values.now in
    let count = c.loop-value.count in
    let most : ℕ = 18446744073709551615 in
    let ended = counts_end xs c.loop-value.value-index c.loop-value-test.false in
    sym (c.loop-value.invariant.counted ∙ ap (λ n. min (count + n) most) ended
    ∙ (ap (λ n. min n most) (omega arith) ∙ min-eq_left c.loop-value.invariant.most))

pub binding_counts-offset_bounds-values-value-index : goal.binding_counts-offset_bounds-values-value-index
binding_counts-offset_bounds-values-value-index g t c = let k = c.loop-value-test.true in omega (arith, k)
