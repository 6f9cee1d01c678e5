use Rattle.std.proofs.Common.{◌≡◌}
use Rattle.mbe_tt.specs.Trees.Tree.{flat_len}
use Rattle.mbe_tt.specs.Views.View.{trees}
use Rattle.mbe_grammar.specs.Rule.{in_turn}
use Rattle.mbe_grammar.specs.SampleGrammar.{takes, Indirection}
use Rattle.mbe_grammar.proofs.sample_types.indirections.Given as goal

abbrev pub invariant-indirections : goal.invariant-indirections
invariant-indirections g l = in_turn (takes Indirection) (trees l.rest)
    ≡ in_turn (takes Indirection) (trees l.fn.tokens)

abbrev pub decreases-indirections : goal.decreases-indirections
decreases-indirections g l = flat_len (trees l.rest)
