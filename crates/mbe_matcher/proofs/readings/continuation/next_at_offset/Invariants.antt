use Rattle.std.proofs.Common.{◌≡◌, map, drop, length}
use Rattle.mbe_tt.specs.Views.View.{trees}
use Rattle.mbe_semantics.specs.Readings.Input.{input_of}
use Rattle.mbe_matcher.specs.Readings.Views.{state_seen}
use Rattle.mbe_matcher.specs.Readings.Continuation.{next_at_offset}
use Rattle.mbe_matcher.proofs.readings.continuation.next_at_offset.Given as goal

abbrev pub invariant-loop-passed : goal.invariant-loop-passed
invariant-loop-passed g l =
    next_at_offset (input_of (g.G.FragmentGrammar.grammar l.grammar) (trees l.source.whole)) (length l.states)
    l.source.offset l.marks l.bounds.live.now l.bounds.end l.bounds.last (map state_seen (drop l.passed l.states))
    ≡ next_at_offset (input_of (g.G.FragmentGrammar.grammar l.grammar) (trees l.source.whole)) (length l.states)
    l.source.offset l.marks l.bounds.live.now l.bounds.end l.bounds.last (map state_seen l.states)
