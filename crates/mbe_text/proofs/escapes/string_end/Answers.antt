use Rattle.std.proofs.Common.{rules}
use Rattle.mbe_text.proofs.TailLemmas.{end_after, end_on}
use Rattle.mbe_text.proofs.escapes.string_end.Goals as goal

pub chars-preserved-then-takes : goal.chars-preserved-then-takes
chars-preserved-then-takes c = record {
  utf8 = search rules;
  exact = search rules;
  end = end_on _ _ _ (end_after _ _ _ c.chars.invariant.end c.in_ok-char.ensures.shorter c.in_ok-char.ensures.end)
      c.tail-rest.ensures.end;
}

pub chars-preserved : goal.chars-preserved
chars-preserved c = record {
  utf8 = search rules;
  exact = search rules;
  end = end_after _ _ _ c.chars.invariant.end c.in_ok-char.ensures.shorter c.in_ok-char.ensures.end;
}
