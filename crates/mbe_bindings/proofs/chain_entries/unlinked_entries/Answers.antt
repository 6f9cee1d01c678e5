use Rattle.std.proofs.Common.{◌∙◌, ap, arith, sym, take}
use Rattle.mbe_bindings.specs.FlatEntries.{ends}
use Rattle.mbe_log.proofs.ChainLemmas.{same_list, part_there}
use Rattle.mbe_bindings.proofs.ReadLemmas.{own_room}
use Rattle.mbe_bindings.proofs.chain_entries.unlinked_entries.Goals as goal

pub returns-in-None-default : goal.returns-in-None-default
returns-in-None-default g c =
    let l = c.index-lists-part.result in (
      own_room c.args.lists.now c.args.part l c.prefix.result.1 c.requires c.index-lists-part.is
          (sym c.prefix.ensures.own),
      ends c.args.part l (take c.prefix.result.1 l.own)
          (same_list c.args.lists.now c.args.part l c.requires c.index-lists-part.is)
          (sym c.prefix.ensures.link ∙ c.in-None-default.is-0) (ap (λ n. take n l.own) c.prefix.ensures.own),
    )

pub bounds-lists-part : goal.bounds-lists-part
bounds-lists-part g c = part_there c.args.lists.now c.args.part c.requires

pub offset_bounds-lists-part : goal.offset_bounds-lists-part
offset_bounds-lists-part g c =
    let k = part_there c.args.lists.now c.args.part c.requires in omega (arith, k)
