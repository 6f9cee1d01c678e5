use Rattle.mbe_text.proofs.TailLemmas.{end_here, end_on, end_or}
use Rattle.mbe_text.proofs.rust_tokens.past_exponent.Goals as goal

pub returns-clause-end : goal.returns-clause-end
returns-clause-end c = λ h.
    let sign = end_or _ c.past_one-2.result c.in-Some.following c.unwrap_or-digits.result c.past_one-2.ensures.end
    (end_here _) c.unwrap_or-digits.ensures in
    end_on _ _ _ h (end_on _ _ _ c.in-Some.ensures.end (end_on _ _ _ sign c.past.ensures.end))
