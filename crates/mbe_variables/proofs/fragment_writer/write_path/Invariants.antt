use Rattle.std.proofs.Common.{◌≡◌}
use Rattle.mbe_tt.specs.Buffers.GroupStack.{put}
use Rattle.mbe_tt.specs.Trees.Tree.{flat_len}
use Rattle.mbe_semantics.specs.Transcription.FragmentTrees.{path_trees}
use Rattle.mbe_variables.proofs.fragment_writer.write_path.Given as goal

abbrev pub invariant-trees : goal.invariant-trees
invariant-trees g l = put (path_trees l.call_site l.iter) l.builder
    ≡ put (path_trees l.call_site l.initial.iter) l.initial.builder

abbrev pub decreases-trees : goal.decreases-trees
decreases-trees g l = flat_len l.iter
