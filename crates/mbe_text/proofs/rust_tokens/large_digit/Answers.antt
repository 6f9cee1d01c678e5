use Rattle.std.proofs.Common.{rules}
use Rattle.mbe_text.proofs.TailLemmas.{end_after}
use Rattle.mbe_text.proofs.rust_tokens.large_digit.Goals as goal

pub digits-preserved : goal.digits-preserved
digits-preserved c = record {
  utf8 = search rules;
  exact = search rules;
  end = end_after _ _ _ c.digits.invariant.end c.in_ok-char.ensures.shorter c.in_ok-char.ensures.end;
}
