use Rattle.mbe_text.proofs.TailLemmas.{end_on}
use Rattle.mbe_text.proofs.rust_tokens.plain_lifetime.Goals as goal

pub returns-else-at_least_2021-clause-end : goal.returns-else-at_least_2021-clause-end
returns-else-at_least_2021-clause-end c =
    λ h. rw c.lifetime_token.ensures.end (end_on _ _ _ h c.past_identifier-rest.ensures.end)
