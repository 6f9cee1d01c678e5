use Rattle.std.proofs.Common.{◌≡◌}
use Rattle.mbe_tt.specs.Trees.Tree.{flat_len}
use Rattle.mbe_tt.specs.Views.View.{trees}
use Rattle.mbe_grammar.specs.Rule.{in_turn}
use Rattle.mbe_grammar.specs.SampleGrammar.{takes, NextSegment}
use Rattle.mbe_grammar.proofs.sample_types.next_segments.Given as goal

abbrev pub invariant-segments : goal.invariant-segments
invariant-segments g l = in_turn (takes (NextSegment l.style)) (trees l.rest)
    ≡ in_turn (takes (NextSegment l.style)) (trees l.fn.tokens)

abbrev pub decreases-segments : goal.decreases-segments
decreases-segments g l = flat_len (trees l.rest)
