use Rattle.std.proofs.Common.{◌+◌, ◌-◌, ◌*◌}
use Rattle.mbe_tt.specs.Trees.Tree.{flat_len}
use Rattle.mbe_tt.specs.Views.View.{trees}
use Rattle.mbe_rewriter.specs.WholeFragments.VariableParentheses.{declares_at, declares}
use Rattle.mbe_rewriter.proofs.Worded.SearchLemmas.{Looks}
use Rattle.mbe_rewriter.proofs.whole_fragments.variable_parentheses.+declaring.Given as goal

abbrev pub decreases-declares_at : goal.decreases-declares_at
decreases-declares_at g l = 2 * l.levels + 1

abbrev pub decreases-declares : goal.decreases-declares
decreases-declares g l = 2 * l.levels

abbrev pub invariant-declares-trees : goal.invariant-declares-trees
invariant-declares-trees g l =
    Looks (declares_at (declares (l.fn.levels - 1) l.fn.role l.fn.name) l.fn.role l.fn.name)
    (declares l.fn.levels l.fn.role l.fn.name (trees l.fn.tokens)) l.rest

abbrev pub decreases-declares-trees : goal.decreases-declares-trees
decreases-declares-trees g l = flat_len l.rest
