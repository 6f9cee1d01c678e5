use Rattle.mbe_text.proofs.TailLemmas.{end_after, end_on}
use Rattle.mbe_text.proofs.escapes.past_escape.Goals as goal

pub returns-in-n-clause-end : goal.returns-in-n-clause-end
returns-in-n-clause-end c = λ h. end_after _ _ _ h c.in-Some.ensures.shorter c.in-Some.ensures.end

pub returns-in-0-2-clause-end : goal.returns-in-0-2-clause-end
returns-in-0-2-clause-end c = λ h. end_after _ _ _ h c.in-Some.ensures.shorter c.in-Some.ensures.end

pub returns-in-x-clause-end : goal.returns-in-x-clause-end
returns-in-x-clause-end c = λ h.
    c.past_hex.ensures.end (end_after _ _ _ h c.in-Some.ensures.shorter c.in-Some.ensures.end)

pub returns-in-u-clause-end : goal.returns-in-u-clause-end
returns-in-u-clause-end c = λ h.
    c.past_unicode.ensures.end (end_after _ _ _ h c.in-Some.ensures.shorter c.in-Some.ensures.end)

pub returns-in-10-clause-end : goal.returns-in-10-clause-end
returns-in-10-clause-end c = λ h.
    end_on _ _ _ (end_after _ _ _ h c.in-Some.ensures.shorter c.in-Some.ensures.end) c.past.ensures.end
