use Rattle.std.proofs.Common.{length}
use Rattle.mbe_grammar.proofs.tables.terminals.+are_one_of.Given as goal

abbrev pub decreases-are_one_of : goal.decreases-are_one_of
decreases-are_one_of l = length l.texts.now
