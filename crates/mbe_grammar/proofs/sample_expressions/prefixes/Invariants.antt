use Rattle.std.proofs.Common.{◌≡◌}
use Rattle.mbe_tt.specs.Trees.Tree.{flat_len}
use Rattle.mbe_tt.specs.Views.View.{trees}
use Rattle.mbe_grammar.specs.Rule.{in_turn}
use Rattle.mbe_grammar.specs.SampleGrammar.{takes, Prefix}
use Rattle.mbe_grammar.proofs.sample_expressions.prefixes.Given as goal

abbrev pub invariant-prefixes : goal.invariant-prefixes
invariant-prefixes g l = in_turn (takes Prefix) (trees l.rest) ≡ in_turn (takes Prefix) (trees l.fn.tokens)

abbrev pub decreases-prefixes : goal.decreases-prefixes
decreases-prefixes g l = flat_len (trees l.rest)
