use Rattle.std.proofs.Common.{◌≡◌}
use Rattle.mbe_tt.specs.Trees.Tree.{flat_len}
use Rattle.mbe_tt.specs.Views.View.{trees}
use Rattle.mbe_grammar.specs.Rule.{in_turn}
use Rattle.mbe_grammar.specs.SampleGrammar.{takes, Alternative}
use Rattle.mbe_grammar.proofs.sample_patterns.alternatives.Given as goal

abbrev pub invariant-alternatives : goal.invariant-alternatives
invariant-alternatives g l = in_turn (takes Alternative) (trees l.rest)
    ≡ in_turn (takes Alternative) (trees l.fn.tokens)

abbrev pub decreases-alternatives : goal.decreases-alternatives
decreases-alternatives g l = flat_len (trees l.rest)
