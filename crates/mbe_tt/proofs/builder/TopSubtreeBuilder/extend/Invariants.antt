use Rattle.std.proofs.Common.{◌≡◌}
use Rattle.mbe_tt.specs.Buffers.GroupStack.{put}
use Rattle.mbe_tt.specs.Views.LeafViews.{leaves_of}
use Rattle.mbe_tt.proofs.builder.TopSubtreeBuilder.extend.Given as goal

abbrev pub invariant-loop-leaf : goal.invariant-loop-leaf
invariant-loop-leaf g l =
    (goal.iterator-loop-leaf g).can_next l.leaf-iterator
    × (goal.iterator-loop-leaf g).is_finite l.leaf-iterator
    × (l.self ≡ put (leaves_of l.yielded) l.initial.self)
