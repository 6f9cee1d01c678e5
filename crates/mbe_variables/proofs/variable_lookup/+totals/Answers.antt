use Rattle.std.proofs.Common.{◌≡◌, length, ap, sym, ◌∙◌, rules, arith}
use Rattle.mbe_bindings.specs.declared.bindings.Binding.{Nested}
use Rattle.mbe_semantics.specs.Transcription.Rounds.{value_total}
use Rattle.mbe_bindings.specs.BindingViews.{value_seen}
use Rattle.mbe_variables.proofs.FollowLemmas.{total_zero, total_step}
use Rattle.mbe_variables.proofs.variable_lookup.+totals.Goals as goal

pub value_total-returns-then-depth-eq0 : goal.value_total-returns-then-depth-eq0
value_total-returns-then-depth-eq0 g t c =
    let n : c.len.result ≡ length c.in-Nested.values.items = search rules in
    n ∙ sym (ap (λ b. value_total c.args.depth (value_seen b)) c.in-Nested.is
    ∙ (ap (λ d. value_total d (value_seen (Nested c.in-Nested.values))) c.if-depth-eq0.true
    ∙ total_zero c.in-Nested.values))

pub values_total-returns-in_default : goal.values_total-returns-in_default
values_total-returns-in_default g t c =
    let split = total_step c.args.depth c.args.values.now c.loop-value.value-index c.value-item.result
    c.loop-value-test.true c.value-item.is in
    omega (arith, c.in_default.ensures, c.loop-value.invariant, split)

pub values_total-returns-in_default-checked_add : goal.values_total-returns-in_default-checked_add
values_total-returns-in_default-checked_add g t c =
    let split = total_step c.args.depth c.args.values.now c.loop-value.value-index c.value-item.result
    c.loop-value-test.true c.value-item.is in
    omega (arith, c.in_default-checked_add.ensures, c.in-Some.ensures, c.loop-value.invariant, split)

pub values_total-loop-value-preserved : goal.values_total-loop-value-preserved
values_total-loop-value-preserved g t c =
    let split = total_step c.args.depth c.args.values.now c.loop-value.value-index c.value-item.result
    c.loop-value-test.true c.value-item.is in
    omega (arith, c.in-Some-checked_add.ensures, c.in-Some.ensures, c.loop-value.invariant, split)
