use Rattle.std.proofs.Common.{arith, rules}
use Rattle.std.proofs.lemmas.Result.{err_from_is_err_and}
use Rattle.mbe_text.proofs.TailLemmas.{end_after, end_on}
use Rattle.mbe_text.proofs.escapes.check_raw.Goals as goal

pub returns-in_err-past_plain_char-clause-place : goal.returns-in_err-past_plain_char-clause-place
returns-in_err-past_plain_char-clause-place c =
    let p = err_from_is_err_and c.from_residual.result c.from_residual.ensures.1 in
    let step = c.in-Some.ensures in
    rw (p.1, p.2) (end_on _ _ _ c.chars.invariant.end
    (c.in_err-past_plain_char.ensures.end (omega (arith, step.shorter), step.end)))

pub chars-preserved-in_ok-past_plain_char : goal.chars-preserved-in_ok-past_plain_char
chars-preserved-in_ok-past_plain_char c = record {
  utf8 = search rules;
  exact = search rules;
  end = end_after _ _ _ c.chars.invariant.end c.in-Some.ensures.shorter c.in-Some.ensures.end;
}

pub chars-preserved : goal.chars-preserved
chars-preserved c = record {
  utf8 = search rules;
  exact = search rules;
  end = end_after _ _ _ c.chars.invariant.end c.in-Some.ensures.shorter c.in-Some.ensures.end;
}
