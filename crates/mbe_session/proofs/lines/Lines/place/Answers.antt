use Rattle.std.proofs.Common.{rules, ap, subst, sym, ◌∙◌, ◌+◌, ◌-◌, ◌^◌, min, count_by, nat_lt}
use Rattle.std.proofs.Math.Dec.{ltb}
use Rattle.std.proofs.lemmas.List.Sorted.{IsPartitionPoint-from_clause}
use Rattle.mbe_session.specs.LineEndings.{IsAscending}
use Rattle.mbe_session.proofs.PlaceLemmas.{point_before}
use Rattle.mbe_session.proofs.ReturnLemmas.{counted, parted}
use Rattle.mbe_session.proofs.lines.Lines.place.Goals as goal

pub returns : goal.returns
returns g c =
    let same = c.as_slice.ensures.value in
    let ascending = parted c.as_slice.result.now c.args.at (subst IsAscending (sym same) c.args.self.now.ascending) in
    let before = point_before c.as_slice.result.now c.args.at c.partition_point-before.result
    c.partition_point-before.ensures.bound
    (IsPartitionPoint-from_clause (λ y. ltb y c.args.at) _ _ c.partition_point-before.ensures.partitioned ascending
    (λ a r q k. search rules)) in
    c.saturating_add.ensures
    ∙ ap (λ n. min (c.args.at + n) (2 ^ 64 - 1)) (counted _ _ _ before ∙ ap (count_by (λ f. nat_lt f c.args.at)) same)
