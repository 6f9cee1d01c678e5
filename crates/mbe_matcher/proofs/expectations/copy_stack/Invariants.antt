use Rattle.std.proofs.Common.{◌≡◌, take}
use Rattle.mbe_matcher.proofs.expectations.copy_stack.Given as goal

abbrev pub invariant-loop-thread : goal.invariant-loop-thread
invariant-loop-thread g l = l.copy.items ≡ take l.thread-index l.stack
