use Rattle.std.proofs.Common.{◌+◌, ◌*◌}
use Rattle.mbe_tt.specs.Trees.Tree.{flat_len}
use Rattle.mbe_tt.specs.Views.View.{trees}
use Rattle.mbe_rewriter.specs.WholeFragments.FragmentGroups.{open_in}
use Rattle.mbe_rewriter.proofs.Worded.GroupLemmas.{left_of}
use Rattle.mbe_rewriter.proofs.Worded.WrittenLemmas.{Left}
use Rattle.mbe_rewriter.proofs.whole_fragments.fragment_groups.+opening.Given as goal

abbrev pub decreases-write_fragment : goal.decreases-write_fragment
decreases-write_fragment g l = 3 * l.levels + 1

abbrev pub decreases-write_plain : goal.decreases-write_plain
decreases-write_plain g l = 3 * l.levels + 1

abbrev pub decreases-write_group : goal.decreases-write_group
decreases-write_group g l = 3 * l.levels + 2

abbrev pub decreases-write_opened : goal.decreases-write_opened
decreases-write_opened g l = 3 * l.levels

abbrev pub invariant-write_opened-trees : goal.invariant-write_opened-trees
invariant-write_opened-trees g l =
    Left (open_in l.fn.levels l.fn.site.opening l.fn.site.is_path l.fn.site.surroundings (trees l.fn.tokens))
    l.initial.builder
    (left_of l.fn.levels l.fn.site.opening l.fn.site.is_path l.fn.site.surroundings l.prefix l.rest) l.builder

abbrev pub decreases-write_opened-trees : goal.decreases-write_opened-trees
decreases-write_opened-trees g l = flat_len l.rest
