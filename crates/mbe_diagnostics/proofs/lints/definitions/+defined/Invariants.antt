use Rattle.std.proofs.Common.{◌≡◌, ◌+◌, ◌-◌, ◌*◌, ◌++◌, map}
use Rattle.mbe_tt.specs.Views.View.{trees}
use Rattle.mbe_rewriter.specs.MacroItemViews.{macro_definition_shown}
use Rattle.mbe_diagnostics.specs.Lints.Definitions.{defined_in_tree, defined_by_fronts, definitions}
use Rattle.mbe_diagnostics.proofs.lints.definitions.+defined.Given as goal

abbrev pub decreases-push_defined : goal.decreases-push_defined
decreases-push_defined g l = 2 * l.levels

abbrev pub decreases-push_defined_in_tree : goal.decreases-push_defined_in_tree
decreases-push_defined_in_tree g l = 2 * l.levels + 1

abbrev pub decreases-push_defined-fronts : goal.decreases-push_defined-fronts
decreases-push_defined-fronts g l = l.left

abbrev pub invariant-push_defined-fronts : goal.invariant-push_defined-fronts
invariant-push_defined-fronts g l =
    map macro_definition_shown l.found.items
    ++ defined_by_fronts (defined_in_tree (definitions (l.fn.levels - 1))) l.left (trees l.rest)
    ≡ map macro_definition_shown l.initial.found.items ++ definitions l.fn.levels (trees l.fn.tokens)
