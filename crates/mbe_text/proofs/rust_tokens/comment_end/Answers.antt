use Rattle.std.proofs.Common.{arith, rules}
use Rattle.mbe_text.proofs.TailLemmas.{end_after, end_on}
use Rattle.mbe_text.proofs.rust_tokens.comment_end.Goals as goal

pub chars-preserved-then-begins_with : goal.chars-preserved-then-begins_with
chars-preserved-then-begins_with c = record {
  utf8 = search rules;
  exact = search rules;
  end = end_on _ _ _ (end_after _ _ _ c.chars.invariant.end c.in_ok-after.ensures.shorter c.in_ok-after.ensures.end)
      c.tail-rest.ensures.end;
  few = omega (arith, c.in_ok-after.ensures.shorter, c.tail-rest.ensures.end.0);
}

pub chars-preserved-then-not-begins_with : goal.chars-preserved-then-not-begins_with
chars-preserved-then-not-begins_with c = record {
  utf8 = search rules;
  exact = search rules;
  end = end_after _ _ _ c.chars.invariant.end c.in_ok-after.ensures.shorter c.in_ok-after.ensures.end;
  few = omega (arith, c.in_ok-after.ensures.shorter);
}

pub chars-preserved : goal.chars-preserved
chars-preserved c = record {
  utf8 = search rules;
  exact = search rules;
  end = end_on _ _ _ (end_after _ _ _ c.chars.invariant.end c.in_ok-after.ensures.shorter c.in_ok-after.ensures.end)
      c.tail-rest-else-depth-eq0.ensures.end;
  few = omega (arith, c.in_ok-after.ensures.shorter, c.tail-rest-else-depth-eq0.ensures.end.0);
}
