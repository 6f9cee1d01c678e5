use Rattle.std.proofs.Common.{◌≡◌, take}
use Rattle.mbe_bindings.specs.KeptLists.{kept_lists}
use Rattle.mbe_bindings.proofs.log_compaction.kept_lists.Given as goal

abbrev pub invariant-loop-index : goal.invariant-loop-index
invariant-loop-index g l =
    let t = g.E.LogEntry.table l.moves in
    l.kept.items ≡ kept_lists t (g.E.LogEntry.moved l.moves) (take l.index t) l.lists
