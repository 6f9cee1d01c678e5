use Rattle.std.proofs.Common.{◌≡◌, ◌+◌, ◌≤◌, ℕ, false, List, [], length, reverse}
use Rattle.std.specs.List.{filter_map}
use Rattle.mbe_tt.specs.Trees.Tree.{rest_at}
use Rattle.mbe_tt.specs.Views.View.{trees}
use Rattle.mbe_semantics.specs.Matching.States.{state_count}
use Rattle.mbe_semantics.specs.Readings.Input.{input_of}
use Rattle.mbe_laws.specs.Loop.StackClosure.{kept}
use Rattle.mbe_threads.specs.VisitCounts.{AreCounted, NoVisitsFrom, vacancies}
use Rattle.mbe_matcher.specs.Threads.{Keeps}
use Rattle.mbe_matcher.specs.MatchResults.{IsStack}
use Rattle.mbe_matcher.specs.Failures.{Notes, mismatch}
use Rattle.mbe_matcher.specs.Reports.{IsReportOf}
use Rattle.mbe_matcher.proofs.Frontiers.{Walked}
use Rattle.mbe_matcher.proofs.Whole.{FillsAll}
use Rattle.mbe_matcher.proofs.closure.follow_epsilons.Given as goal

abbrev pub invariant-loop-thread : goal.invariant-loop-thread
invariant-loop-thread g l = record {
  keeps : Keeps l.fn.log l.log l.fn.state.frames.items l.state.frames.items;
  no_visits : NoVisitsFrom l.state.counts.marks.items (l.source.offset + 1);
  size : length l.state.counts.marks.items ≡ length l.fn.state.counts.marks.items;
  few : length l.frontier.token_steps.items + length l.frontier.ends.items
      + vacancies l.source.offset l.state.counts.marks.items
      ≤ length l.fn.state.counts.marks.items + length l.fn.state.counts.marks.items;
  walked : (visited : List ℕ) × AreCounted l.state.counts.marks.items l.source.offset visited
      × ((s : IsStack (input_of (g.G.FragmentGrammar.grammar l.grammar) (trees l.source.whole)) l.source.offset
      (length l.fn.state.counts.marks.items) l.fn.log l.fn.state.frames.items l.fn.todo.items) →
      (w : Walked (input_of (g.G.FragmentGrammar.grammar l.grammar) (trees l.source.whole)) s.pattern l.source.offset
      (kept (input_of (g.G.FragmentGrammar.grammar l.grammar) (trees l.source.whole)) (state_count s.pattern)
      l.source.offset
      (reverse s.thread_stack))
      visited l.log l.state.frames.items (rest_at (trees l.source.whole) l.source.offset) l.todo.items
      l.frontier.token_steps.items l.frontier.ends.items)
      × ((n : Notes) → IsReportOf l.fn.log (trees l.source.whole) l.fn.state.report [] n →
      IsReportOf l.log (trees l.source.whole) l.state.report
      (filter_map (mismatch (input_of (g.G.FragmentGrammar.grammar l.grammar) (trees l.source.whole)) l.source.offset)
      w.out) n)
      × (l.state.has_dropped ≡ false → (l.fn.state.has_dropped ≡ false)
      × FillsAll (input_of (g.G.FragmentGrammar.grammar l.grammar) (trees l.source.whole)) s.pattern l.source.offset
      s.thread_stack w.stack w.out));
}

abbrev pub decreases-loop-thread : goal.decreases-loop-thread
decreases-loop-thread g l = length l.todo.items
    + (vacancies l.source.offset l.state.counts.marks.items + vacancies l.source.offset l.state.counts.marks.items)
