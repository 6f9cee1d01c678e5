use Rattle.std.proofs.Common.{◌≤◌, length, refl, rules}
use Rattle.mbe_bindings.proofs.CompactSteps.{list_cut, all_cut}
use Rattle.mbe_bindings.proofs.log_compaction.are_kept.Goals as goal

pub loop-index-preserved : goal.loop-index-preserved
loop-index-preserved g c =
    let m = c.args.moves.now in
    list_cut (g.E.LogEntry.table m) (g.E.LogEntry.refers m) c.args.lists.now c.loop-index.index c.loop-index.invariant
    (c.if-not-is_list_kept.ensures refl)

pub returns : goal.returns
returns g c =
    let m = c.args.moves.now in
    let end : length (g.E.LogEntry.table m) ≤ c.loop-index.index = search rules in
    λ _. all_cut (g.E.LogEntry.table m) (g.E.LogEntry.refers m) c.args.lists.now c.loop-index.index end
    c.loop-index.invariant
