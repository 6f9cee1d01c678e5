use Rattle.mbe_text.proofs.TailLemmas.{end_here, end_on}
use Rattle.mbe_text.proofs.rust_tokens.char_until.Goals as goal

pub returns-in-Some-clause-end : goal.returns-in-Some-clause-end
returns-in-Some-clause-end c = λ _. end_here _

pub returns-in-None-clause-end : goal.returns-in-None-clause-end
returns-in-None-clause-end c = λ h.
    end_on _ _ _ (end_on _ _ _ h c.requires) (end_on _ _ _ c.tail.ensures.end c.literal.ensures.end)

pub returns-in-Err-clause-end : goal.returns-in-Err-clause-end
returns-in-Err-clause-end c = λ h. end_on _ _ _ h c.fault_inside.ensures.end
