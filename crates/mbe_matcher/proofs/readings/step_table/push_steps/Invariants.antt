use Rattle.std.proofs.Common.{◌≡◌, ◌++◌, map, drop, length}
use Rattle.mbe_tt.specs.Views.View.{trees}
use Rattle.mbe_semantics.specs.Readings.Input.{input_of}
use Rattle.mbe_matcher.specs.Readings.Graph.{steps_there}
use Rattle.mbe_matcher.specs.Readings.Views.{state_seen}
use Rattle.mbe_matcher.proofs.readings.step_table.push_steps.Given as goal

abbrev pub invariant-loop-passed : goal.invariant-loop-passed
invariant-loop-passed g l =
    l.steps.items ++ steps_there (input_of (g.G.FragmentGrammar.grammar l.grammar) (trees l.source.whole))
    (length l.states) l.source.offset (map state_seen (drop l.passed l.states))
    ≡ l.fn.steps.items ++ steps_there (input_of (g.G.FragmentGrammar.grammar l.grammar) (trees l.source.whole))
    (length l.states) l.source.offset (map state_seen l.states)
