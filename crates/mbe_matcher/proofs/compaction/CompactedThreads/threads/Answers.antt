use Rattle.mbe_matcher.specs.Compaction.{CarriesThread}
use Rattle.mbe_matcher.proofs.Keeping.{each_next}
use Rattle.mbe_matcher.proofs.compaction.CompactedThreads.threads.Goals as goal

pub loop-thread-preserved : goal.loop-thread-preserved
loop-thread-preserved g c =
    each_next (CarriesThread c.args.self.now) c.args.threads.now c.loop-thread.thread-index
    c.thread-item.result c.loop-thread.moved.items c.in-Some.next c.push.new.self.items c.loop-thread-test.true
    c.thread-item.is c.loop-thread.invariant c.in-Some.ensures c.in_ok-push.ensures.items
