use Rattle.std.proofs.Common.{◌≡◌, ◌-◌, length}
use Rattle.mbe_tt.specs.Views.View.{trees}
use Rattle.mbe_tt.specs.Trees.Tree.{flat_len}
use Rattle.mbe_semantics.specs.Matching.States.{state_count}
use Rattle.mbe_ops.specs.Views.{template_of}
use Rattle.mbe_threads.specs.VisitCounts.{NoVisitsFrom}
use Rattle.mbe_matcher.proofs.Arriving.{CameTo}
use Rattle.mbe_matcher.proofs.expectations.run_to_stop.Given as goal

abbrev pub invariant-loop-source : goal.invariant-loop-source
invariant-loop-source g l = record {
  comes : CameTo (g.G.FragmentGrammar.grammar l.grammar) (template_of l.pattern) (trees l.source.whole)
      l.source.offset l.log l.state.frames.items l.todo.items;
  whole : l.source.whole ≡ l.argument;
  no_visits : NoVisitsFrom l.state.counts.marks.items l.source.offset;
  size : length l.state.counts.marks.items ≡ state_count (template_of l.pattern);
}

abbrev pub decreases-loop-source : goal.decreases-loop-source
decreases-loop-source g l = flat_len (trees l.source.whole) - l.source.offset
