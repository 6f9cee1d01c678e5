use Rattle.mbe_text.proofs.ReadBack.LexedLemmas.{lexed_are_rust}
use Rattle.mbe_text.proofs.laws.lexed_are_rust.Goals as goal

pub returns : goal.returns
returns c = lexed_are_rust
