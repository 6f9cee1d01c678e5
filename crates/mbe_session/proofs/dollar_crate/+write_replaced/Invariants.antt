use Rattle.mbe_tt.specs.Trees.Tree.{flat_len}
use Rattle.mbe_tt.specs.Views.View.{trees}
use Rattle.mbe_session.proofs.NamingLemmas.{Left}
use Rattle.mbe_session.proofs.dollar_crate.+write_replaced.Given as goal

abbrev pub decreases-write_replaced : goal.decreases-write_replaced
decreases-write_replaced l = l.levels

abbrev pub invariant-trees : goal.invariant-trees
invariant-trees l =
    Left l.fn.levels l.name (trees l.fn.tokens) l.initial.builder l.after l.rest l.builder

abbrev pub decreases-trees : goal.decreases-trees
decreases-trees l = flat_len l.rest
