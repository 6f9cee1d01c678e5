use Rattle.std.proofs.Common.{◌+◌, ◌-◌, ◌*◌}
use Rattle.mbe_tt.specs.Trees.Tree.{flat_len}
use Rattle.mbe_tt.specs.Views.View.{trees}
use Rattle.mbe_rewriter.specs.WholeFragments.BuiltinNames.{tree_has_builtin_name, has_builtin_name}
use Rattle.mbe_rewriter.proofs.Worded.SearchLemmas.{Looks}
use Rattle.mbe_rewriter.proofs.whole_fragments.builtin_names.+naming.Given as goal

abbrev pub decreases-tree_has_builtin_name : goal.decreases-tree_has_builtin_name
decreases-tree_has_builtin_name g l = 2 * l.levels + 1

abbrev pub decreases-has_builtin_name : goal.decreases-has_builtin_name
decreases-has_builtin_name g l = 2 * l.levels

abbrev pub invariant-has_builtin_name-trees : goal.invariant-has_builtin_name-trees
invariant-has_builtin_name-trees g l =
    Looks (λ t rest. tree_has_builtin_name (has_builtin_name (l.fn.levels - 1)) t)
    (has_builtin_name l.fn.levels (trees l.fn.tokens)) l.rest

abbrev pub decreases-has_builtin_name-trees : goal.decreases-has_builtin_name-trees
decreases-has_builtin_name-trees g l = flat_len l.rest
