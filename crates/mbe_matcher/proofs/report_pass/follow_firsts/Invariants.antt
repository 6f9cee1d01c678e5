use Rattle.std.proofs.Common.{◌≡◌, ◌+◌, ℕ, List, [], length}
use Rattle.std.specs.List.{filter_map}
use Rattle.mbe_tt.specs.Trees.Tree.{rest_at}
use Rattle.mbe_tt.specs.Views.View.{trees}
use Rattle.mbe_semantics.specs.Matching.States.{state_count}
use Rattle.mbe_semantics.specs.Readings.Input.{input_of}
use Rattle.mbe_matcher.specs.VisitedSet.{AreVisited, AreUnvisitedFrom, unvisited}
use Rattle.mbe_matcher.specs.Threads.{Keeps}
use Rattle.mbe_matcher.specs.Failures.{Notes, mismatch}
use Rattle.mbe_matcher.specs.Reports.{IsReportOf}
use Rattle.mbe_matcher.specs.FirstAndLast.{model_first}
use Rattle.mbe_matcher.specs.ReportPass.{IsFirstStack}
use Rattle.mbe_matcher.proofs.FirstWalk.{FirstWalked}
use Rattle.mbe_matcher.proofs.report_pass.follow_firsts.Given as goal

abbrev pub invariant-loop-thread : goal.invariant-loop-thread
invariant-loop-thread g l = record {
  keeps : Keeps l.fn.log l.log l.fn.pass.frames.items l.pass.frames.items;
  unvisited : AreUnvisitedFrom l.pass.first_visited.offsets.items (l.source.offset + 1);
  size : length l.pass.first_visited.offsets.items ≡ length l.fn.pass.first_visited.offsets.items;
  other : l.pass.last_visited ≡ l.fn.pass.last_visited;
  walked : (visited : List ℕ) × AreVisited l.pass.first_visited.offsets.items l.source.offset visited
      × ((s : IsFirstStack (input_of (g.G.FragmentGrammar.grammar l.grammar) (trees l.source.whole)) l.source.offset
      (length l.fn.pass.first_visited.offsets.items) l.fn.log l.fn.pass.frames.items l.fn.todo.items) →
      (w : FirstWalked (input_of (g.G.FragmentGrammar.grammar l.grammar) (trees l.source.whole)) s.pattern
      l.source.offset
      (model_first (input_of (g.G.FragmentGrammar.grammar l.grammar) (trees l.source.whole)) (state_count s.pattern)
      l.source.offset s.models)
      visited l.log l.pass.frames.items (rest_at (trees l.source.whole) l.source.offset) l.todo.items
      l.firsts.token_steps.items
      l.firsts.ends.items)
      × ((n : Notes) → IsReportOf l.fn.log (trees l.source.whole) l.fn.pass.report [] n →
      IsReportOf l.log (trees l.source.whole) l.pass.report
      (filter_map (mismatch (input_of (g.G.FragmentGrammar.grammar l.grammar) (trees l.source.whole)) l.source.offset)
      w.out) n));
}

abbrev pub decreases-loop-thread : goal.decreases-loop-thread
decreases-loop-thread g l = length l.todo.items
    + (unvisited l.source.offset l.pass.first_visited.offsets.items + unvisited l.source.offset
    l.pass.first_visited.offsets.items)
