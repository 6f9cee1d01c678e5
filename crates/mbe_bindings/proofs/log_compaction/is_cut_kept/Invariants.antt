use Rattle.mbe_bindings.proofs.CompactSteps.{AreSoFar}
use Rattle.mbe_bindings.proofs.log_compaction.is_cut_kept.Given as goal

abbrev pub invariant-loop-index : goal.invariant-loop-index
invariant-loop-index g l = AreSoFar (g.E.LogEntry.refers l.moves) l.list.own l.index
