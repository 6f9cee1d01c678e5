use Rattle.std.proofs.Common.{◌≡◌, ◌-◌, ◌≤◌, length}
use Rattle.mbe_tt.specs.Views.View.{trees}
use Rattle.mbe_semantics.specs.Matching.States.{state_count}
use Rattle.mbe_semantics.specs.Readings.Input.{input_of}
use Rattle.mbe_bindings.specs.LogCompaction.{HasAtMost}
use Rattle.mbe_log.specs.HandleChanges.{KeepsHandles}
use Rattle.mbe_ops.specs.Views.{template_of}
use Rattle.mbe_matcher.specs.VisitedSet.{AreUnvisitedFrom}
use Rattle.mbe_matcher.proofs.EndsPass.{PassAt}
use Rattle.mbe_matcher.proofs.report_pass.report_up_to.Given as goal

abbrev pub invariant-loop-source : goal.invariant-loop-source
invariant-loop-source g l = record {
  comes : PassAt (input_of (g.G.FragmentGrammar.grammar l.grammar) (trees l.source.whole)) (trees l.source.whole)
      (template_of l.pattern) l.source.offset l.log l.pass.frames.items
      l.firsts.items l.lasts.items l.pass.report;
  whole : l.source.whole ≡ l.argument;
  within : l.source.offset ≤ l.stop;
  first_size : length l.pass.first_visited.offsets.items ≡ state_count (template_of l.pattern);
  last_size : length l.pass.last_visited.offsets.items ≡ state_count (template_of l.pattern);
  first_unvisited : AreUnvisitedFrom l.pass.first_visited.offsets.items l.source.offset;
  last_unvisited : AreUnvisitedFrom l.pass.last_visited.offsets.items l.source.offset;
  kept : KeepsHandles l.fn.log l.log;
  start : HasAtMost l.room.extent l.fn.log;
}

abbrev pub decreases-loop-source : goal.decreases-loop-source
decreases-loop-source g l = l.stop - l.source.offset
