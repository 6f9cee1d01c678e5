use Rattle.std.proofs.Common.{◌≡◌, ◌++◌, drop}
use Rattle.mbe_matcher.proofs.compaction.replace_stack.Given as goal

abbrev pub invariant-loop-thread : goal.invariant-loop-thread
invariant-loop-thread g l = l.todo.items ++ drop l.thread-index l.threads ≡ l.threads
