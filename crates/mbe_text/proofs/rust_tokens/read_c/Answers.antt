use Rattle.mbe_text.proofs.TailLemmas.{end_on}
use Rattle.mbe_text.proofs.rust_tokens.read_c.Goals as goal

pub returns-then-begins_with-clause-end : goal.returns-then-begins_with-clause-end
returns-then-begins_with-clause-end c = end_on _ _ _ c.tail.ensures.end c.string.ensures.end
