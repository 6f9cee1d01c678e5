use Rattle.std.specs.Prelude.{option_map}
use Rattle.mbe_tt.specs.Trees.Tree.{flat_len}
use Rattle.mbe_tt.specs.Views.View.{trees}
use Rattle.mbe_rewriter.specs.WholeFragments.VariableParentheses.{rules_by, parenthesize_rules}
use Rattle.mbe_rewriter.proofs.Worded.WrittenLemmas.{Left}
use Rattle.mbe_rewriter.proofs.whole_fragments.variable_parentheses.write_rules.Given as goal

abbrev pub invariant-trees : goal.invariant-trees
invariant-trees g l =
    Left (parenthesize_rules (trees l.fn.rules)) l.initial.builder (rules_by (option_map trees l.pattern) l.rest)
    l.builder

abbrev pub decreases-trees : goal.decreases-trees
decreases-trees g l = flat_len l.rest
