use Rattle.std.proofs.Common.{◌≡◌, ◌+◌, ℕ, List, length}
use Rattle.mbe_tt.specs.Trees.Tree.{rest_at}
use Rattle.mbe_tt.specs.Views.View.{trees}
use Rattle.mbe_semantics.specs.Readings.Input.{input_of}
use Rattle.mbe_matcher.specs.VisitedSet.{AreVisited, AreUnvisitedFrom, unvisited}
use Rattle.mbe_matcher.specs.Threads.{Keeps}
use Rattle.mbe_matcher.specs.FirstAndLast.{Visit}
use Rattle.mbe_matcher.specs.ReportPass.{IsLastStack}
use Rattle.mbe_matcher.proofs.LastWalk.{AreVisits, LastWalked}
use Rattle.mbe_matcher.proofs.report_pass.follow_lasts.Given as goal

abbrev pub invariant-loop-visit : goal.invariant-loop-visit
invariant-loop-visit g l = record {
  keeps : Keeps l.fn.log l.log l.fn.pass.frames.items l.pass.frames.items;
  unvisited : AreUnvisitedFrom l.pass.last_visited.offsets.items (l.source.offset + 1);
  size : length l.pass.last_visited.offsets.items ≡ length l.fn.pass.last_visited.offsets.items;
  other : l.pass.first_visited ≡ l.fn.pass.first_visited;
  report : l.pass.report ≡ l.fn.pass.report;
  walked : (visited : List ℕ) × AreVisited l.pass.last_visited.offsets.items l.source.offset visited
      × ((s : IsLastStack (input_of (g.G.FragmentGrammar.grammar l.grammar) (trees l.source.whole))
      (rest_at (trees l.source.whole) l.source.offset) l.source.offset
      (length l.fn.pass.last_visited.offsets.items) l.fn.log l.fn.pass.frames.items l.fn.todo.items) →
      (all : List Visit) × AreVisits (input_of (g.G.FragmentGrammar.grammar l.grammar) (trees l.source.whole)) s.pattern
      l.source.offset s.models all
      × LastWalked (input_of (g.G.FragmentGrammar.grammar l.grammar) (trees l.source.whole)) s.pattern l.source.offset
      all visited l.log l.pass.frames.items
      (rest_at (trees l.source.whole) l.source.offset) l.todo.items l.lasts.token_steps.items l.lasts.failed);
}

abbrev pub decreases-loop-visit : goal.decreases-loop-visit
decreases-loop-visit g l =
    length l.todo.items + (unvisited l.source.offset l.pass.last_visited.offsets.items
    + unvisited l.source.offset l.pass.last_visited.offsets.items + unvisited l.source.offset
    l.pass.last_visited.offsets.items)
