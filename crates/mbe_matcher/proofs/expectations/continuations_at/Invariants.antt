use Rattle.std.proofs.Common.{◌≡◌, ◌+◌, ℕ, List, length, reverse}
use Rattle.mbe_tt.specs.Views.View.{trees}
use Rattle.mbe_semantics.specs.Matching.States.{state_count}
use Rattle.mbe_semantics.specs.Readings.Input.{input_of}
use Rattle.mbe_laws.specs.Loop.StackClosure.{kept}
use Rattle.mbe_threads.specs.VisitCounts.{AreCounted, vacancies}
use Rattle.mbe_matcher.specs.Threads.{Keeps}
use Rattle.mbe_matcher.specs.MatchResults.{IsStack}
use Rattle.mbe_matcher.proofs.Looking.{Looking}
use Rattle.mbe_matcher.proofs.expectations.continuations_at.Given as goal

abbrev pub invariant-loop-thread : goal.invariant-loop-thread
invariant-loop-thread g l = record {
  keeps : Keeps l.fn.log l.log l.fn.frames.items l.frames.items;
  size : length l.counts.marks.items ≡ l.number;
  walked : (visited : List ℕ) × AreCounted l.counts.marks.items l.source.offset visited
      × ((s : IsStack (input_of (g.G.FragmentGrammar.grammar l.grammar) (trees l.source.whole)) l.source.offset l.number
      l.fn.log l.fn.frames.items l.fn.todo.items) →
      Looking (input_of (g.G.FragmentGrammar.grammar l.grammar) (trees l.source.whole)) s.pattern l.source.offset
      (kept (input_of (g.G.FragmentGrammar.grammar l.grammar) (trees l.source.whole)) (state_count s.pattern)
      l.source.offset
      (reverse s.thread_stack))
      visited l.log l.frames.items l.todo.items l.next_steps.items);
}

abbrev pub decreases-loop-thread : goal.decreases-loop-thread
decreases-loop-thread g l = length l.todo.items
    + (vacancies l.source.offset l.counts.marks.items + vacancies l.source.offset l.counts.marks.items)
