use Rattle.mbe_bindings.specs.KeptLists.{AreUnmoved}
use Rattle.mbe_bindings.proofs.log_compaction.are_unmoved.Given as goal

abbrev pub invariant-loop-index : goal.invariant-loop-index
invariant-loop-index g l = AreUnmoved l.table l.lists l.index
