use Rattle.std.proofs.Common.{◌≡◌, ◌≤◌, ◌-◌}
use Rattle.mbe_tt.specs.Trees.Tree.{flat_len, cut_flat}
use Rattle.mbe_tt.specs.Buffers.Offsets.{cursor_trees, offset_of}
use Rattle.mbe_threads.proofs.fragment_front.leave_groups.Given as goal

abbrev pub invariant-groups : goal.invariant-groups
invariant-groups g l = record {
  same : cursor_trees l.cursor ≡ cursor_trees l.initial.cursor;
  within : offset_of l.cursor ≤ flat_len (cursor_trees l.initial.cursor);
  cut : cut_flat (offset_of l.cursor) (cursor_trees l.initial.cursor)
      ≡ cut_flat (offset_of l.initial.cursor) (cursor_trees l.initial.cursor);
}

abbrev pub decreases-groups : goal.decreases-groups
decreases-groups g l = flat_len (cursor_trees l.initial.cursor) - offset_of l.cursor
