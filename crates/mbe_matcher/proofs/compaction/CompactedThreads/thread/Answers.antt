use Rattle.mbe_matcher.proofs.Carrying.{thread_carried}
use Rattle.mbe_matcher.proofs.compaction.CompactedThreads.thread.Goals as goal

pub returns : goal.returns
returns g c = thread_carried c.args.self.now c.args.thread.now c.in_ok-up.up c.in_ok-handle.handle
    c.in_ok-up.ensures c.in_ok-handle.ensures
