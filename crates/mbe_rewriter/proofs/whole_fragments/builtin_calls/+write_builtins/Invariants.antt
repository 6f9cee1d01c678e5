use Rattle.mbe_tt.specs.Trees.Tree.{flat_len}
use Rattle.mbe_tt.specs.Views.View.{trees}
use Rattle.mbe_rewriter.specs.WholeFragments.BuiltinCalls.{expand_builtins_in}
use Rattle.mbe_rewriter.proofs.Worded.WordLemmas.{left_of}
use Rattle.mbe_rewriter.proofs.Worded.WrittenLemmas.{Left}
use Rattle.mbe_rewriter.proofs.whole_fragments.builtin_calls.+write_builtins.Given as goal

abbrev pub decreases-write_builtins : goal.decreases-write_builtins
decreases-write_builtins g l = l.levels

abbrev pub invariant-trees : goal.invariant-trees
invariant-trees g l =
    Left (expand_builtins_in l.fn.builtins l.fn.levels l.fn.inside (trees l.fn.tokens)) l.initial.builder
    (left_of l.fn.builtins l.fn.levels l.fn.inside l.still_skipped l.before l.rest) l.builder

abbrev pub decreases-trees : goal.decreases-trees
decreases-trees g l = flat_len l.rest
