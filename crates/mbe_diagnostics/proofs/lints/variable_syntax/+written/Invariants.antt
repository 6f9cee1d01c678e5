use Rattle.std.proofs.Common.{◌≡◌, ◌+◌, ◌-◌, ◌*◌}
use Rattle.mbe_tt.specs.Trees.Tree.{flat_len}
use Rattle.mbe_tt.specs.Views.View.{trees}
use Rattle.mbe_diagnostics.specs.Lints.VariableSyntax.{find_among, find_in}
use Rattle.mbe_diagnostics.proofs.lints.variable_syntax.+written.Given as goal

abbrev pub decreases-find_in : goal.decreases-find_in
decreases-find_in g l = 2 * l.levels

abbrev pub decreases-find_at_front : goal.decreases-find_at_front
decreases-find_at_front g l = 2 * l.levels + 1

abbrev pub decreases-find_in-trees : goal.decreases-find_in-trees
decreases-find_in-trees g l = flat_len l.iter

abbrev pub invariant-find_in-trees : goal.invariant-find_in-trees
invariant-find_in-trees g l =
    find_among (find_in (l.fn.levels - 1) l.fn.place) l.fn.place l.iter
    ≡ find_in l.fn.levels l.fn.place (trees l.fn.tokens)
