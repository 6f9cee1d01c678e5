use Rattle.std.proofs.Common.{◌≡◌, ◌+◌, min, ℕ, ap, sym, ◌∙◌, arith}
use Rattle.std.proofs.Math.Nat.{min-eq_left}
use Rattle.mbe_semantics.specs.Bindings.Environment.{binding_count, binding_total}
use Rattle.mbe_bindings.specs.BindingViews.{value_seen}
use Rattle.mbe_bindings.proofs.BindingLemmas.{values_of}
use Rattle.mbe_bindings.proofs.CountLemmas.{stopped}
use Rattle.mbe_bindings.proofs.bindings.Bindings.count.Goals as goal

pub loop-name-init : goal.loop-name-init
loop-name-init g c =
    let total : ℕ = binding_total (values_of c.into_iter-name-iterator.result) in
    let same : total ≡ 0 + total = omega arith in
    record {
      counted = sym (ap (λ it. min (binding_total (values_of it)) 18446744073709551615)
          c.into_iter-name-iterator.ensures.into_iter_gives.0)
          ∙ ap (λ n. min n 18446744073709551615) same;
      most = omega arith;
    }

pub loop-name-preserved : goal.loop-name-preserved
loop-name-preserved g c =
    let count : ℕ = c.loop-name.count in
    let more : ℕ = c.saturating_add-count.result in
    let most : ℕ = 18446744073709551615 in
    let b : ℕ = binding_count (value_seen c.in-Some.binding.now) in
    let rest : ℕ = binding_total (values_of c.next.new.self) in
    let now : more ≡ min (count + min b most) most =
    c.saturating_add-count.ensures ∙ ap (λ n. min (count + n) most) c.binding_count.ensures in
    record {
      counted = c.loop-name.invariant.counted
          ∙ ap (λ it. min (count + binding_total (values_of it)) most) c.in-Some.ensures.steps
          ∙ sym (ap (λ n. min (n + rest) most) now ∙ stopped most count b rest);
      most = let l = c.saturating_add-count.type_inv in omega (arith, l);
    }

pub returns : goal.returns
returns g c =
    let count : ℕ = c.loop-name.count in
    let most : ℕ = 18446744073709551615 in
    sym (c.loop-name.invariant.counted ∙ ap (λ it. min (count + binding_total (values_of it)) most)
    c.in-None.ensures.steps.0
    ∙ (ap (λ n. min n most) (omega arith) ∙ min-eq_left c.loop-name.invariant.most))
