use Rattle.mbe_tt.specs.Trees.Tree.{flat_len}
use Rattle.mbe_tt.specs.Views.View.{trees}
use Rattle.mbe_rewriter.specs.WholeFragments.VariableParentheses.{parenthesized_in}
use Rattle.mbe_rewriter.proofs.Worded.TypeLemmas.{left_of}
use Rattle.mbe_rewriter.proofs.Worded.WrittenLemmas.{Left}
use Rattle.mbe_rewriter.proofs.whole_fragments.variable_parentheses.+write_parenthesized.Given as goal

abbrev pub decreases-write_parenthesized : goal.decreases-write_parenthesized
decreases-write_parenthesized g l = l.levels

abbrev pub invariant-trees : goal.invariant-trees
invariant-trees g l =
    Left (parenthesized_in (trees l.fn.pattern) l.fn.levels (trees l.fn.tokens)) l.initial.builder
    (left_of (trees l.fn.pattern) l.fn.levels l.is_written l.rest) l.builder

abbrev pub decreases-trees : goal.decreases-trees
decreases-trees g l = flat_len l.rest
