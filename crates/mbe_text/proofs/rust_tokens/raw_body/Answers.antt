use Rattle.mbe_text.proofs.TailLemmas.{end_on}
use Rattle.mbe_text.proofs.rust_tokens.raw_body.Goals as goal

pub returns-in-Ok-clause-end : goal.returns-in-Ok-clause-end
returns-in-Ok-clause-end c = λ h. end_on _ _ _ h (c.raw_until.ensures.end c.in-Some.ensures.after)
