use Rattle.std.proofs.Common.{◌≡◌, length}
use Rattle.mbe_semantics.specs.Bindings.Account.{Log}
use Rattle.mbe_matcher.specs.Compaction.{AreHandles, AreCarried}
use Rattle.mbe_matcher.proofs.compaction.CompactedThreads.take_outers.Given as goal

abbrev pub invariant-loop-frame : goal.invariant-loop-frame
invariant-loop-frame g l = record {
  log : l.self.log ≡ l.fn.self.log;
  moves : l.self.moves ≡ l.fn.self.moves;
  count : length l.self.numbers.items ≡ l.frame-index;
  carried : (old : Log) → AreHandles l.self.moves old l.self.log
      → AreCarried old l.self.log l.frames l.self.frames.items l.self.numbers.items;
}
