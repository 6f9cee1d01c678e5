use Rattle.std.proofs.Common.{◌≡◌}
use Rattle.mbe_tt.specs.Trees.Tree.{flat_len}
use Rattle.mbe_tt.specs.Views.View.{trees}
use Rattle.mbe_grammar.specs.Tables.Rule.{or_else}
use Rattle.mbe_grammar.specs.SampleGrammar.{takes, Pat}
use Rattle.mbe_grammar.specs.Tables.ParseResult.{result_model}
use Rattle.mbe_grammar.proofs.sample_patterns.pat.Given as goal

abbrev pub invariant-modes : goal.invariant-modes
invariant-modes g l = or_else (takes Pat (trees l.rest)) (result_model l.otherwise) ≡ takes Pat (trees l.fn.tokens)

abbrev pub decreases-modes : goal.decreases-modes
decreases-modes g l = flat_len (trees l.rest)
