use Rattle.std.proofs.Common.{◌≡◌, ◌+◌}
use Rattle.mbe_threads.proofs.source.Source.passed.Given as goal

abbrev pub invariant-loop-passed : goal.invariant-loop-passed
invariant-loop-passed g l = record {
  whole : l.source.whole ≡ l.fn.self.whole;
  offset : l.source.offset
      ≡ l.fn.self.offset + l._passed;
}
