use Rattle.mbe_text.proofs.TailLemmas.{end_here}
use Rattle.mbe_text.proofs.rust_tokens.read_quote.Goals as goal

pub returns-else-begins_lifetime-clause-end : goal.returns-else-begins_lifetime-clause-end
returns-else-begins_lifetime-clause-end c = c.char.ensures.end (end_here _)
