use Rattle.std.proofs.Common.{ℕ, Some, List, Option, ◌≡◌, ◌≤◌, ◌<◌, ◌+◌, ◌-◌, ◌∙◌, [], ◌∷◌, ◌++◌, ap, sym, refl, length, rules}
use Rattle.std.proofs.Common.{arith}
use Rattle.std.proofs.lemmas.List.{length-map}
use Rattle.mbe_tt.specs.declared.span.SyntaxContext.{SyntaxContext}
use Rattle.mbe_tt.specs.declared.span.Edition.{Edition}
use Rattle.mbe_tt.specs.Trees.Tree.{none, flat_len, passed}
use Rattle.mbe_semantics.specs.Syntax.Definition.{Rule, Rules}
use Rattle.mbe_parser.specs.FaultOffsets.{RuleFaultAt, RulesFaultAt}
use Rattle.mbe_ops.specs.Errors.ErrorViews.{fault_of}
use Rattle.mbe_parser.specs.RuleResults.{ReadsRule}
use Rattle.mbe_parser.specs.RuleViews.{rule_of, rules_seen}
use Rattle.mbe_parser.proofs.RuleReading.{IsSeparated, at_fault, at_end, one_more, last_rule, stray_rule, rules-push}
use Rattle.mbe_parser.proofs.RuleReading.{rules-push-more}
use Rattle.mbe_parser.proofs.RuleLemmas.{at_rule, at_stray, so_far-step, so_far-counted, same_rules_place, length-push}
use Rattle.mbe_parser.specs.declared.refusal.RulesFault.{RulesFault}
use Rattle.mbe_parser.specs.RefusedRepetitions.{IsRuleEmpty}
use Rattle.mbe_parser.specs.Refusals.{first_of}
use Rattle.mbe_parser.proofs.ReaderLemmas.{each_offset, fails-weaker, fails-shifted}
use Rattle.mbe_parser.proofs.EmptyRules.{Settled, settled-more, goes-more, refused-by, refused-or-none, placed-some}
use Rattle.mbe_parser.proofs.EmptyRules.{placed-by}
use Rattle.mbe_ops.proofs.Fragments.{rest_no_longer}
use Rattle.mbe_tt.proofs.Offsets.CutLemmas.{no_true}
use Rattle.mbe_parser.proofs.rules.parse_rules.Goals as goal
use Rattle.mbe_parser.proofs.rules.parse_rules.Goals.{In_ok-push-in-Ok}

-- after a rule that was read
module _ (g : _) (c : In_ok-push-in-Ok g) where
  abbrev HasEdition : SyntaxContext → Edition → Type 0
  HasEdition ctx e = g.E.Fn.post c.args.ctx_edition (ctx, tt) e

  abbrev read : List Rule
  read = rules_seen c.rules.rules.items ++ rule_of c.in-Ok.rule ∷ []

  abbrev first : Option RulesFault
  first = first_of c.rules.empty c.in-Ok.offset c.len.result (c.flat_len-whole.result - c.flat_len.result)

  reads : ReadsRule HasEdition c.rules.src (rule_of c.in-Ok.rule) c.parse_rule.new.src
  reads = c.in-Ok.ensures.rule

  empty : IsRuleEmpty HasEdition c.rules.src (rule_of c.in-Ok.rule) c.in-Ok.offset
  empty = c.in-Ok.ensures.empty

  counted : length c.rules.rules.items + 1 ≡ length c.push.new.self.items
  counted = sym (ap length c.in_ok-push-in-Ok.ensures.items ∙ length-push c.rules.rules.items c.in-Ok.rule)

  settled : Settled HasEdition c.args.separators.now c.args.src read first
  settled =
      let many : c.len.result ≡ length c.rules.rules.items = search rules in
      let far : c.flat_len-whole.result - c.flat_len.result ≡ passed c.args.src c.rules.src =
      omega (arith, c.rules.invariant.whole, c.flat_len.ensures, ap flat_len c.remaining-in-rules.ensures) in
      settled-more _ c.args.separators.now c.args.src c.rules.src c.parse_rule.new.src
      (rules_seen c.rules.rules.items) (rule_of c.in-Ok.rule) c.rules.empty c.in-Ok.offset
      (c.flat_len-whole.result - c.flat_len.result) c.len.result
      (many ∙ sym (length-map c.rules.rules.items rule_of)) far c.rules.invariant.settled c.rules.invariant.goes reads
      empty

pub shifted-requires : goal.shifted-requires
shifted-requires g c =
    fails-weaker c.in-Err.error (λ x n. n ≤ flat_len c.rules.src)
    (λ x n. c.flat_len-whole.result - c.flat_len.result + n < 18446744073709551616)
    (λ x n h. omega (
      arith,
      h,
      c.rules.invariant.whole,
      c.rules.invariant.so_far.shorter,
      c.flat_len.ensures,
      ap flat_len c.remaining-in-rules.ensures,
    )) c.in-Err.ensures.within

pub returns-in-Err-clause-rules : goal.returns-in-Err-clause-rules
returns-in-Err-clause-rules g c =
    let some_left : c.rules.src ≡ none → ⊥ = search rules in
    let all = fails-shifted (c.flat_len-whole.result - c.flat_len.result) c.in-Err.error
    (λ x n. RuleFaultAt (λ ctx e. g.E.Fn.post c.args.ctx_edition (ctx, tt) e) x c.rules.src n)
    (λ x n. Rules (λ ctx e. g.E.Fn.post c.args.ctx_edition (ctx, tt) e) c.args.separators.now
    (fault_of c.args.missing) c.args.src (rules_seen c.rules.rules.items) (Some x))
    (λ x n w. at_fault _ c.args.separators.now (fault_of c.args.missing) x (rules_seen c.rules.rules.items)
    c.args.src c.rules.src n c.rules.invariant.continues some_left w) c.in-Err.ensures.fault in
    let first = rw (← c.shifted.ensures, c.in_ok-found-in-Err.ensures) at all in
    rw c.refused.ensures
    (refused-by _ c.args.separators.now c.args.src (fault_of c.args.missing) (rules_seen c.rules.rules.items)
    c.rules.empty c.new-fault.result c.rules.invariant.settled (rw c.new-fault.ensures.fault first))

pub returns-in-Err-clause-offset : goal.returns-in-Err-clause-offset
returns-in-Err-clause-offset g c =
    let some_left : c.rules.src ≡ none → ⊥ = search rules in
    let k : length c.rules.rules.items ≡ c.new-fault.result.rule = search rules in
    let far : passed c.args.src c.rules.src ≡ c.flat_len-whole.result - c.flat_len.result =
    omega (arith, c.rules.invariant.whole, c.flat_len.ensures, ap flat_len c.remaining-in-rules.ensures) in
    let all = fails-shifted (c.flat_len-whole.result - c.flat_len.result) c.in-Err.error
    (λ x n. RuleFaultAt (λ ctx e. g.E.Fn.post c.args.ctx_edition (ctx, tt) e) x c.rules.src n)
    (λ x n. RulesFaultAt (λ ctx e. g.E.Fn.post c.args.ctx_edition (ctx, tt) e) c.args.separators.now
    (fault_of c.args.missing) x c.args.src c.new-fault.result.rule n)
    (λ x n w. same_rules_place _ c.args.separators.now (fault_of c.args.missing) x c.args.src _ _ _ _ k
    (ap (λ (i : ℕ). i + n) far) (at_rule _ c.args.separators.now (fault_of c.args.missing)
    (length c.rules.rules.items) c.args.src c.rules.src c.rules.invariant.so_far x n some_left w))
    c.in-Err.ensures.fault in
    let first = rw (← c.shifted.ensures, c.in_ok-found-in-Err.ensures) at all in
    rw c.refused.ensures
    (placed-by _ c.args.separators.now c.args.src (fault_of c.args.missing) (rules_seen c.rules.rules.items)
    c.rules.empty c.new-fault.result c.rules.invariant.settled
    (rw (c.new-fault.ensures.fault, c.new-fault.ensures.offset) first))

pub first_of-empty-requires : goal.first_of-empty-requires
first_of-empty-requires g c =
    let within = c.in-Ok.ensures.within_empty in
    let far : c.flat_len-whole.result - c.flat_len.result + flat_len c.rules.src ≤ c.flat_len-whole.result =
    omega (
      arith,
      c.rules.invariant.whole,
      c.rules.invariant.so_far.shorter,
      c.flat_len.ensures,
      ap flat_len c.remaining-in-rules.ensures,
    ) in
    each_offset (λ n. n ≤ flat_len c.rules.src)
    (λ n. c.flat_len-whole.result - c.flat_len.result + n < 18446744073709551616) c.in-Ok.offset
    (λ n h. omega (arith, h, far)) within

pub rules-smaller : goal.rules-smaller
rules-smaller g c =
    let shorter = c.in-Ok.ensures.shorter in
    omega (arith, shorter, ap flat_len c.in-Ok-expect_any_char.ensures.rest, rest_no_longer c.parse_rule.new.src)

pub rules-preserved : goal.rules-preserved
rules-preserved g c =
    let here = (goal.at.rules-preserved g c).In_ok-push-in-Ok in
    let shorter = c.in-Ok.ensures.shorter in
    let separated = c.in-Ok-expect_any_char.ensures.value.0 refl in
    let rest = c.in-Ok-expect_any_char.ensures.rest in
    let fewer : flat_len c.expect_any_char.new.self ≤ flat_len c.rules.src =
    omega (arith, shorter, ap flat_len rest, rest_no_longer c.parse_rule.new.src) in
    record {
      continues = λ rs x h. rw (c.in_ok-push-in-Ok.ensures.items, rules-push-more)
          (one_more _ c.args.separators.now (fault_of c.args.missing) (rules_seen c.rules.rules.items)
          (rule_of c.in-Ok.rule) c.args.src c.rules.src c.parse_rule.new.src c.expect_any_char.new.self
          c.rules.invariant.continues (reads g here) separated rest rs x h);
      so_far = so_far-counted _ c.args.separators.now (fault_of c.args.missing) c.args.src c.expect_any_char.new.self
          _ _ (counted g here) (so_far-step _ c.args.separators.now (fault_of c.args.missing)
          (length c.rules.rules.items) c.args.src
          c.rules.src c.rules.invariant.so_far (rule_of c.in-Ok.rule) c.parse_rule.new.src c.expect_any_char.new.self
          (reads g here) separated rest fewer);
      settled = rw (c.first_of-empty.ensures, c.in_ok-push-in-Ok.ensures.items, rules-push) (settled g here);
      goes = rw (c.first_of-empty.ensures, c.in_ok-push-in-Ok.ensures.items, rules-push)
          (goes-more _ c.args.separators.now c.args.src c.rules.src c.parse_rule.new.src c.expect_any_char.new.self
          (rules_seen c.rules.rules.items) (rule_of c.in-Ok.rule) c.rules.empty c.in-Ok.offset
          (c.flat_len-whole.result - c.flat_len.result) c.len.result c.rules.invariant.goes (reads g here)
          (empty g here) separated rest
          fewer c.rules.invariant.so_far.shorter);
      whole = c.rules.invariant.whole;
    }

pub returns-then-is_empty-clause-rules : goal.returns-then-is_empty-clause-rules
returns-then-is_empty-clause-rules g c =
    let here = (goal.at.returns-then-is_empty-clause-rules g c).In_ok-push-in-Ok in
    let nothing_left : c.expect_any_char.new.self ≡ none = search rules in
    rw (c.first_of-empty.ensures, c.in_ok-push-in-Ok.ensures.items, rules-push)
    (refused-or-none _ c.args.separators.now c.args.src (fault_of c.args.missing) (read g here)
    (first g here) (settled g here)
    (last_rule _ c.args.separators.now (fault_of c.args.missing) (rules_seen c.rules.rules.items)
    (rule_of c.in-Ok.rule) c.args.src c.rules.src c.parse_rule.new.src c.rules.invariant.continues (reads g here)
    (sym c.in_default.ensures.rest ∙ nothing_left)))

pub returns-then-is_empty-clause-offset : goal.returns-then-is_empty-clause-offset
returns-then-is_empty-clause-offset g c =
    let here = (goal.at.returns-then-is_empty-clause-offset g c).In_ok-push-in-Ok in
    rw c.first_of-empty.ensures
    (placed-some _ c.args.separators.now c.args.src (fault_of c.args.missing) (read g here)
    (first g here) (settled g here))

pub returns-in_default-clause-rules : goal.returns-in_default-clause-rules
returns-in_default-clause-rules g c =
    let here = (goal.at.returns-in_default-clause-rules g c).In_ok-push-in-Ok in
    let some_left : c.expect_any_char.new.self ≡ none → ⊥ = search rules in
    let none_in_front : IsSeparated c.args.separators.now c.parse_rule.new.src → ⊥ =
    λ h. no_true (c.in_default.ensures.value.1 h) in
    rw (c.refused-in_default.ensures, c.first_of-empty.ensures, c.in_ok-push-in-Ok.ensures.items, rules-push)
    (refused-by _ c.args.separators.now c.args.src (fault_of c.args.missing) (read g here)
    (first g here) c.new-fault-in_default.result (settled g here)
    (rw c.new-fault-in_default.ensures.fault
    (stray_rule _ c.args.separators.now (fault_of c.args.missing) (rules_seen c.rules.rules.items)
    (rule_of c.in-Ok.rule) c.args.src c.rules.src c.parse_rule.new.src c.rules.invariant.continues (reads g here)
    (λ e. some_left (c.in_default.ensures.rest ∙ e)) none_in_front)))

pub returns-in_default-clause-offset : goal.returns-in_default-clause-offset
returns-in_default-clause-offset g c =
    let here = (goal.at.returns-in_default-clause-offset g c).In_ok-push-in-Ok in
    let shorter = c.in-Ok.ensures.shorter in
    let some_left : c.expect_any_char.new.self ≡ none → ⊥ = search rules in
    let none_in_front : IsSeparated c.args.separators.now c.parse_rule.new.src → ⊥ =
    λ h. no_true (c.in_default.ensures.value.1 h) in
    let n : length c.push.new.self.items ≡ c.new-fault-in_default.result.rule = search rules in
    let e : passed c.args.src c.parse_rule.new.src ≡ c.new-fault-in_default.result.offset =
    omega (
      arith,
      c.new-fault-in_default.ensures.offset,
      c.rules.invariant.whole,
      c.flat_len-in_default.ensures,
      ap flat_len c.remaining-in_default.ensures,
      ap flat_len c.in_default.ensures.rest,
    ) in
    rw (c.refused-in_default.ensures, c.first_of-empty.ensures)
    (placed-by _ c.args.separators.now c.args.src (fault_of c.args.missing) (read g here)
    (first g here) c.new-fault-in_default.result (settled g here)
    (rw c.new-fault-in_default.ensures.fault
    (same_rules_place _ c.args.separators.now (fault_of c.args.missing) (fault_of c.args.missing) c.args.src
    _ _ _ _ (counted g here ∙ n) e
    (at_stray _ c.args.separators.now (fault_of c.args.missing) (length c.rules.rules.items) c.args.src c.rules.src
    c.rules.invariant.so_far (rule_of c.in-Ok.rule) c.parse_rule.new.src (reads g here)
    (λ h. some_left (c.in_default.ensures.rest ∙ h)) none_in_front (omega (arith, shorter))))))

pub returns-clause-rules : goal.returns-clause-rules
returns-clause-rules g c =
    let empty : c.rules.src ≡ none = search rules in
    refused-or-none _ c.args.separators.now c.args.src (fault_of c.args.missing) (rules_seen c.rules.rules.items)
    c.rules.empty c.rules.invariant.settled
    (at_end _ c.args.separators.now (fault_of c.args.missing) (rules_seen c.rules.rules.items) c.args.src c.rules.src
    c.rules.invariant.continues empty)

pub returns-clause-offset : goal.returns-clause-offset
returns-clause-offset g c =
    placed-some _ c.args.separators.now c.args.src (fault_of c.args.missing) (rules_seen c.rules.rules.items)
    c.rules.empty c.rules.invariant.settled
