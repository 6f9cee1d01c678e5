use Rattle.std.proofs.Common.{rules, sym, ◌∙◌}
use Rattle.std.proofs.Math.Dec.{ltb}
use Rattle.std.proofs.lemmas.List.Sorted.{IsPartitionPoint-from_clause}
use Rattle.mbe_session.proofs.PlaceLemmas.{parted, point_before}
use Rattle.mbe_session.proofs.lines.Lines.before.Goals as goal

pub returns : goal.returns
returns g c =
    let same = c.as_slice.ensures.value in
    let ascending = parted _ c.as_slice.result.now c.args.at (same ∙ c.args.self.now.table) in
    rw (sym same) (point_before c.as_slice.result.now c.args.at c.partition_point.result
    c.partition_point.ensures.bound
    (IsPartitionPoint-from_clause (λ y. ltb y c.args.at) _ _ c.partition_point.ensures.partitioned ascending
    (λ a r q k. search rules)))
