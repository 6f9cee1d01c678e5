use Rattle.std.proofs.Common.{rules}
use Rattle.mbe_text.proofs.TailLemmas.{end_after}
use Rattle.mbe_text.proofs.escapes.raw_end.Goals as goal

pub chars-preserved : goal.chars-preserved
chars-preserved c = record {
  utf8 = search rules;
  exact = search rules;
  end = end_after _ _ _ c.chars.invariant.end c.in_ok-char.ensures.shorter c.in_ok-char.ensures.end;
}
