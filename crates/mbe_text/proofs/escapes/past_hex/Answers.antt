use Rattle.mbe_text.proofs.TailLemmas.{end_after}
use Rattle.mbe_text.proofs.escapes.past_hex.Goals as goal

pub returns-in-Some-hex_value-clause-end : goal.returns-in-Some-hex_value-clause-end
returns-in-Some-hex_value-clause-end c = λ h.
    c.past_second_digit.ensures.end (end_after _ _ _ h c.in-Some.ensures.shorter c.in-Some.ensures.end)
