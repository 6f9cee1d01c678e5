use Rattle.mbe_text.proofs.TailLemmas.{end_here, end_on}
use Rattle.mbe_text.proofs.rust_tokens.number.Goals as goal

pub returns-then-not-has_digit-clause-end : goal.returns-then-not-has_digit-clause-end
returns-then-not-has_digit-clause-end c = end_here _

pub returns-in-Ok-Some-clause-end : goal.returns-in-Ok-Some-clause-end
returns-in-Ok-Some-clause-end c = c.float.ensures.end

pub returns-in-Ok-None-clause-end : goal.returns-in-Ok-None-clause-end
returns-in-Ok-None-clause-end c = c.integer.ensures.end c.base_of-base.ensures.end

pub returns-in-Err-clause-end : goal.returns-in-Err-clause-end
returns-in-Err-clause-end c =
    let digits = end_on _ _ _ c.base_of-base.ensures.end c.tail.ensures.end in
    c.in-Err.ensures.end (end_on _ _ _ digits c.past-rest.ensures.end)
