use Rattle.mbe_text.proofs.TailLemmas.{hashes_ascii}
use Rattle.mbe_text.proofs.rust_tokens.hashes.Goals as goal

pub returns-clause-ascii : goal.returns-clause-ascii
returns-clause-ascii c = hashes_ascii _ _ _ c.past-rest.ensures.exact c.front.ensures.bytes
