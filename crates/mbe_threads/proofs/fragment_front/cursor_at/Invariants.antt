use Rattle.std.proofs.Common.{◌≡◌}
use Rattle.mbe_tt.specs.Buffers.Offsets.{cursor_trees}
use Rattle.mbe_threads.proofs.fragment_front.cursor_at.Given as goal

abbrev pub invariant-loop-passed : goal.invariant-loop-passed
invariant-loop-passed g l = l.cursor ≡ (cursor_trees l.initial.cursor, l._passed)
