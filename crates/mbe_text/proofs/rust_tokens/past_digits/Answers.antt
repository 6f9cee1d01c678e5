use Rattle.mbe_text.proofs.TailLemmas.{end_on}
use Rattle.mbe_text.proofs.rust_tokens.past_digits.Goals as goal

pub returns-in-Err-clause-end : goal.returns-in-Err-clause-end
returns-in-Err-clause-end c = λ h. c.in-Err.ensures.end (end_on _ _ _ h c.past-rest.ensures.end)
