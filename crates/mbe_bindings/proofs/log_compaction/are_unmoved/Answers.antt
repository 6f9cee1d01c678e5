use Rattle.std.proofs.Common.{◌≡◌, ◌∙◌, Some, length, ap, refl, rules}
use Rattle.std.proofs.lemmas.Option.{slice_get_read}
use Rattle.std.specs.Prelude.{slice_get}
use Rattle.mbe_log.specs.Chain.{chain_len}
use Rattle.mbe_bindings.proofs.CompactSteps.{one_stays}
use Rattle.mbe_bindings.proofs.log_compaction.are_unmoved.Goals as goal

pub loop-index-preserved : goal.loop-index-preserved
loop-index-preserved g c =
    let find_live = c.in-Some.ensures.lookup in
    let there : slice_get c.args.lists.now c.loop-index.index ≡ Some c.in-Some.list.now =
    slice_get_read c.args.lists.now (length c.args.lists.now) c.loop-index.index c.in-Some.list.now refl find_live.3.0
    find_live.1 in
    let got = c.in-Some-Some.ensures.lookup in
    let kept : slice_get c.args.table.now c.loop-index.index ≡ Some (Some c.in-Some-Some.part) =
    slice_get_read c.args.table.now (length c.args.table.now) c.loop-index.index c.in-Some-Some.field-0.now refl got.3.0
    got.1 ∙ ap Some c.in-Some-Some.field-0-is in
    let same : c.in-Some-Some.part.list ≡ c.loop-index.index = search rules in
    let whole : c.in-Some-Some.part.first ≡ chain_len c.in-Some.list.now = search rules in
    one_stays c.args.table.now c.args.lists.now c.loop-index.index c.in-Some.list.now c.in-Some-Some.part
    c.loop-index.invariant there kept same whole
