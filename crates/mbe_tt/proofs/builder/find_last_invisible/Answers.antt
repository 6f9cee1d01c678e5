use Rattle.std.proofs.Common.{◌≡◌, ◌+◌, ◌-◌, ◌≤◌, ap, arith, length}
use Rattle.mbe_tt.specs.Trees.Tree.{Forest, flat_len}
use Rattle.mbe_tt.specs.Views.BufferEntries.{forest_of}
use Rattle.mbe_tt.specs.Views.LeafViews.{entries_of}
use Rattle.mbe_tt.proofs.Buffers.Seen.{length-shown}
use Rattle.mbe_tt.proofs.Buffers.Spelled.{length-spell}
use Rattle.mbe_tt.proofs.Offsets.LastTreeLemmas.{flat_rest, passed_one, false_not}
use Rattle.mbe_tt.proofs.builder.find_last_invisible.Goals as goal
use Rattle.mbe_tt.proofs.builder.find_last_invisible.Goals.{After-flat_len}

-- what is left is no longer than the whole
fits : (g : _) (c : After-flat_len g) → c.flat_len.result ≤ length c.args.entries.now
fits g c =
    omega (
      arith,
      length-shown c.args.entries.now,
      ap length c.requires,
      length-spell (forest_of (entries_of c.args.entries.now)),
      c.loop-tree.invariant.0,
      ap flat_len c.in-Some.ensures.rest,
      flat_rest c.loop-tree.iter,
      c.flat_len.ensures,
      ap flat_len c.remaining.ensures,
    )

pub overflow_sub-offset : goal.overflow_sub-offset
overflow_sub-offset g c = omega (arith, fits g (goal.at.overflow_sub-offset g c).After-flat_len)

pub loop-tree-preserved : goal.loop-tree-preserved
loop-tree-preserved g c =
    let all : Forest = forest_of (entries_of c.args.entries.now) in
    let now : length c.args.entries.now - c.flat_len.result + flat_len c.next.new.self ≡ flat_len all =
    omega (
      arith,
      fits g (goal.at.loop-tree-preserved g c).After-flat_len,
      length-shown c.args.entries.now,
      ap length c.requires,
      length-spell all,
      c.flat_len.ensures,
      ap flat_len c.remaining.ensures,
    ) in
    let p = passed_one all c.loop-tree.iter c.next.new.self _ _ c.loop-tree.invariant.0 c.loop-tree.invariant.1
    c.in-Some.ensures.rest
    (false_not c.is_empty.result c.if-is_empty.false c.is_empty.ensures) now in
    (p.len, p.last)
