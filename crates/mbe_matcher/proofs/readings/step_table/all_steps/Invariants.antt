use Rattle.std.proofs.Common.{◌≡◌, ◌-◌, map, length}
use Rattle.mbe_tt.specs.Trees.Tree.{flat_len}
use Rattle.mbe_tt.specs.Views.View.{trees}
use Rattle.mbe_semantics.specs.Readings.Input.{input_of}
use Rattle.mbe_matcher.specs.Readings.Graph.{steps_before}
use Rattle.mbe_matcher.specs.Readings.Views.{state_seen}
use Rattle.mbe_matcher.proofs.readings.step_table.all_steps.Given as goal

abbrev pub invariant-loop-source : goal.invariant-loop-source
invariant-loop-source g l = record {
  whole : l.source.whole ≡ l.argument;
  steps : l.steps.items ≡ steps_before (input_of (g.G.FragmentGrammar.grammar l.grammar) (trees l.argument))
      (length l.states) (map state_seen l.states) l.source.offset;
}

abbrev pub decreases-loop-source : goal.decreases-loop-source
decreases-loop-source g l = flat_len (trees l.source.whole) - l.source.offset
