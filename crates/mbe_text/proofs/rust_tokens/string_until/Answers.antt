use Rattle.mbe_text.proofs.TailLemmas.{end_on}
use Rattle.mbe_text.proofs.rust_tokens.string_until.Goals as goal

pub returns-in-Ok-clause-end : goal.returns-in-Ok-clause-end
returns-in-Ok-clause-end c = end_on _ _ _ (end_on _ _ _ c.requires c.tail.ensures.end) c.literal.ensures.end
