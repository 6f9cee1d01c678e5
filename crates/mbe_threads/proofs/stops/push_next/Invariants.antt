use Rattle.std.proofs.Common.{◌≡◌, ◌++◌, map, drop}
use Rattle.mbe_threads.specs.Stops.{thread_after}
use Rattle.mbe_threads.proofs.stops.push_next.Given as goal

abbrev pub invariant-loop-thread : goal.invariant-loop-thread
invariant-loop-thread g l =
    l.todo.items ++ map thread_after (drop l.thread-index l.token_steps)
    ≡ l.fn.todo.items ++ map thread_after l.token_steps
