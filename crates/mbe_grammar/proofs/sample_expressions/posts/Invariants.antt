use Rattle.std.proofs.Common.{◌≡◌}
use Rattle.mbe_tt.specs.Trees.Tree.{flat_len}
use Rattle.mbe_tt.specs.Views.View.{trees}
use Rattle.mbe_grammar.specs.Rule.{in_turn}
use Rattle.mbe_grammar.specs.SampleGrammar.{takes, Post}
use Rattle.mbe_grammar.proofs.sample_expressions.posts.Given as goal

abbrev pub invariant-posts : goal.invariant-posts
invariant-posts g l = in_turn (takes Post) (trees l.rest) ≡ in_turn (takes Post) (trees l.fn.tokens)

abbrev pub decreases-posts : goal.decreases-posts
decreases-posts g l = flat_len (trees l.rest)
