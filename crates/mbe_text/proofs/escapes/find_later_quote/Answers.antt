use Rattle.std.proofs.Common.{rules}
use Rattle.mbe_text.proofs.TailLemmas.{end_after, end_on}
use Rattle.mbe_text.proofs.escapes.find_later_quote.Goals as goal

pub chars-preserved-then-char-eq92 : goal.chars-preserved-then-char-eq92
chars-preserved-then-char-eq92 c = record {
  utf8 = search rules;
  exact = search rules;
  end = end_on _ _ _ (end_after _ _ _ c.chars.invariant.end c.in_ok-char.ensures.shorter c.in_ok-char.ensures.end)
      c.tail-rest.ensures.end;
}

pub chars-preserved : goal.chars-preserved
chars-preserved c = record {
  utf8 = search rules;
  exact = search rules;
  end = end_after _ _ _ c.chars.invariant.end c.in_ok-char.ensures.shorter c.in_ok-char.ensures.end;
}
