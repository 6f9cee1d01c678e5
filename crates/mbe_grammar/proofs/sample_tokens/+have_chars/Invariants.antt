use Rattle.std.proofs.Common.{length}
use Rattle.mbe_grammar.proofs.sample_tokens.+have_chars.Given as goal

abbrev pub decreases-have_chars : goal.decreases-have_chars
decreases-have_chars l = length l.puncts.now
