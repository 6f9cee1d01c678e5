use Rattle.mbe_text.proofs.TailLemmas.{end_on}
use Rattle.mbe_text.proofs.rust_tokens.read_b.Goals as goal

pub returns-then-begins_with-2-clause-end : goal.returns-then-begins_with-2-clause-end
returns-then-begins_with-2-clause-end c = end_on _ _ _ c.tail-then-begins_with-2.ensures.end c.string.ensures.end
