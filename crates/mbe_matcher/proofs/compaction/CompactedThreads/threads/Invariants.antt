use Rattle.std.proofs.Common.{take}
use Rattle.mbe_matcher.specs.Threads.{Each}
use Rattle.mbe_matcher.specs.Compaction.{CarriesThread}
use Rattle.mbe_matcher.proofs.compaction.CompactedThreads.threads.Given as goal

abbrev pub invariant-loop-thread : goal.invariant-loop-thread
invariant-loop-thread g l = Each (CarriesThread l.self) (take l.thread-index l.threads) l.moved.items
