use Rattle.mbe_text.proofs.TailLemmas.{end_on}
use Rattle.mbe_text.proofs.rust_tokens.raw.Goals as goal

pub returns-then-begins_with-clause-end : goal.returns-then-begins_with-clause-end
returns-then-begins_with-clause-end c = λ h.
    c.raw_body.ensures.end (end_on _ _ _ (end_on _ _ _ h c.hashes.ensures.end) c.tail.ensures.end)
