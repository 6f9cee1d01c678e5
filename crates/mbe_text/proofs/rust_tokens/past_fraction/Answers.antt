use Rattle.mbe_text.proofs.TailLemmas.{end_on}
use Rattle.mbe_text.proofs.rust_tokens.past_fraction.Goals as goal

pub returns-then-begins-2-clause-end : goal.returns-then-begins-2-clause-end
returns-then-begins-2-clause-end c = λ h. c.past_digits.ensures.end (end_on _ _ _ h c.tail-following.ensures.end)

pub returns-else-begins-2-clause-end : goal.returns-else-begins-2-clause-end
returns-else-begins-2-clause-end c = λ h. end_on _ _ _ h c.tail-following.ensures.end
