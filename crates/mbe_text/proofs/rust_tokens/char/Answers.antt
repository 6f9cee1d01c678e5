use Rattle.mbe_text.proofs.TailLemmas.{end_on}
use Rattle.mbe_text.proofs.rust_tokens.char.Goals as goal

pub returns-in-Some-clause-end : goal.returns-in-Some-clause-end
returns-in-Some-clause-end c = λ h. c.char_until.ensures.end (end_on _ _ _ h c.tail-body.ensures.end)
