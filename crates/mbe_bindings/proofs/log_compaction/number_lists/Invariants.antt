use Rattle.std.proofs.Common.{◌≡◌}
use Rattle.mbe_bindings.specs.KeptLists.{IsNumbered}
use Rattle.mbe_bindings.proofs.CompactSteps.{kept_count}
use Rattle.mbe_bindings.proofs.log_compaction.number_lists.Given as goal

abbrev pub invariant-loop-mark : goal.invariant-loop-mark
invariant-loop-mark g l = IsNumbered 0 l.table.items × (kept_count l.table.items ≡ l.list)
