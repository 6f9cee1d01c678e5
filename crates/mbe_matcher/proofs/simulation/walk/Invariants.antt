use Rattle.std.proofs.Common.{◌≡◌, ◌-◌, false, [], length}
use Rattle.mbe_tt.specs.Views.View.{trees}
use Rattle.mbe_tt.specs.Trees.Tree.{flat_len}
use Rattle.mbe_semantics.specs.Matching.States.{state_count}
use Rattle.mbe_semantics.specs.Readings.Input.{input_of}
use Rattle.mbe_bindings.specs.LogCompaction.{HasAtMost}
use Rattle.mbe_log.specs.HandleChanges.{KeepsHandles}
use Rattle.mbe_ops.specs.Views.{template_of}
use Rattle.mbe_threads.specs.VisitCounts.{NoVisitsFrom}
use Rattle.mbe_matcher.specs.Failures.{Notes}
use Rattle.mbe_matcher.specs.Reports.{IsReportOf}
use Rattle.mbe_matcher.proofs.Whole.{WholeWith}
use Rattle.mbe_matcher.proofs.Arriving.{CameTo}
use Rattle.mbe_matcher.proofs.simulation.walk.Given as goal

abbrev pub invariant-offsets : goal.invariant-offsets
invariant-offsets g l = record {
  comes : (came : CameTo (g.G.FragmentGrammar.grammar l.grammar) (template_of l.pattern) (trees l.source.whole)
      l.source.offset l.log l.state.frames.items l.todo.items)
      × (before : Notes) × IsReportOf l.log (trees l.source.whole) l.state.report [] before
      × (l.state.has_dropped ≡ false → WholeWith
      (input_of (g.G.FragmentGrammar.grammar l.grammar) (trees l.source.whole)) (template_of l.pattern)
      l.source.offset came.thread_stack before);
  whole : l.source.whole ≡ l.argument;
  no_visits : NoVisitsFrom l.state.counts.marks.items l.source.offset;
  size : length l.state.counts.marks.items ≡ state_count (template_of l.pattern);
  kept : KeepsHandles l.fn.log l.log;
  start : HasAtMost l.room.extent l.fn.log;
}

abbrev pub decreases-offsets : goal.decreases-offsets
decreases-offsets g l = flat_len (trees l.source.whole) - l.source.offset
