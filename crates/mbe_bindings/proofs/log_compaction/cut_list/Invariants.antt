use Rattle.std.proofs.Common.{◌≡◌, map, take, option_map}
use Rattle.mbe_log.specs.Chain.{link_in}
use Rattle.mbe_bindings.specs.LogCompaction.{moved}
use Rattle.mbe_bindings.proofs.log_compaction.cut_list.Given as goal

abbrev pub invariant-loop-index : goal.invariant-loop-index
invariant-loop-index g l = l.prefix ≡ record {
  link = option_map (moved (g.E.LogEntry.table l.moves)) (link_in l.list.link l.first);
  own = map (g.E.LogEntry.moved l.moves) (take l.index l.list.own);
}
