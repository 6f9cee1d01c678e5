use Rattle.mbe_bindings.proofs.CompactSteps.{AreCutSoFar}
use Rattle.mbe_bindings.proofs.log_compaction.are_kept.Given as goal

abbrev pub invariant-loop-index : goal.invariant-loop-index
invariant-loop-index g l =
    AreCutSoFar (g.E.LogEntry.table l.moves) (g.E.LogEntry.table l.moves) (g.E.LogEntry.refers l.moves) l.lists l.index
