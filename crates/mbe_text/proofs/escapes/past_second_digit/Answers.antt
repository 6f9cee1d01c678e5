use Rattle.mbe_text.proofs.TailLemmas.{end_after}
use Rattle.mbe_text.proofs.escapes.past_second_digit.Goals as goal

pub returns-else-is_c-clause-end : goal.returns-else-is_c-clause-end
returns-else-is_c-clause-end c = λ h. end_after _ _ _ h c.in-Some.ensures.shorter c.in-Some.ensures.end
