use Rattle.std.proofs.Common.{arith, rules}
use Rattle.mbe_text.proofs.TailLemmas.{end_after}
use Rattle.mbe_text.proofs.escapes.past_digits.Goals as goal

pub returns-then-char-eq125-clause-end : goal.returns-then-char-eq125-clause-end
returns-then-char-eq125-clause-end c = λ h.
    let step = c.in-Some.ensures in
    c.past_value.ensures.end (end_after _ _ _ (c.digits.invariant.end h) step.shorter step.end)

pub digits-preserved-in-Some-hex_value : goal.digits-preserved-in-Some-hex_value
digits-preserved-in-Some-hex_value c = record {
  utf8 = search rules;
  few = omega arith;
  small = omega arith;
  exact = search rules;
  end = λ h. end_after _ _ _ (c.digits.invariant.end h) c.in-Some.ensures.shorter c.in-Some.ensures.end;
  fewer = omega (arith, c.in-Some.ensures.shorter);
}

pub digits-preserved : goal.digits-preserved
digits-preserved c = record {
  utf8 = search rules;
  few = omega arith;
  small = omega arith;
  exact = search rules;
  end = λ h. end_after _ _ _ (c.digits.invariant.end h) c.in-Some.ensures.shorter c.in-Some.ensures.end;
  fewer = omega (arith, c.in-Some.ensures.shorter);
}
