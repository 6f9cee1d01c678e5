use Rattle.std.proofs.Common.{◌≡◌, ◌+◌}
use Rattle.std.specs.Option.{option_map}
use Rattle.mbe_tt.specs.Trees.Tree.{last_invisible, flat_len, tree_count}
use Rattle.mbe_tt.specs.Views.BufferEntries.{forest_of}
use Rattle.mbe_tt.specs.Views.LeafViews.{entries_of}
use Rattle.mbe_tt.proofs.builder.find_last_invisible.Given as goal

abbrev pub invariant-loop-tree : goal.invariant-loop-tree
invariant-loop-tree g l =
    (l.offset + flat_len l.iter ≡ flat_len (forest_of (entries_of l.entries)))
    × (option_map (λ n. l.offset + n) (last_invisible l.iter) ≡ last_invisible (forest_of (entries_of l.entries)))

abbrev pub decreases-loop-tree : goal.decreases-loop-tree
decreases-loop-tree g l = tree_count l.iter
