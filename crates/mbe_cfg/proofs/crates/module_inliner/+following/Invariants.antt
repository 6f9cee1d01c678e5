use Rattle.std.proofs.Common.{◌+◌, ◌*◌, map}
use Rattle.mbe_tt.specs.Trees.Tree.{flat_len}
use Rattle.mbe_tt.specs.Views.View.{trees}
use Rattle.mbe_cfg.specs.Crates.ModuleInliner.{inlined}
use Rattle.mbe_cfg.specs.Crates.CrateViews.{inline_context_shown, file_shown, cursor_shown, unresolved_shown}
use Rattle.mbe_cfg.proofs.FollowLemmas.{Going}
use Rattle.mbe_cfg.proofs.crates.module_inliner.+following.Given as goal

abbrev pub decreases-inline_trees : goal.decreases-inline_trees
decreases-inline_trees g l = 7 * l.levels + 6

abbrev pub decreases-inline_front : goal.decreases-inline_front
decreases-inline_front g l = 7 * l.levels + 5

abbrev pub decreases-inline_tree : goal.decreases-inline_tree
decreases-inline_tree g l = 7 * l.levels + 4

abbrev pub decreases-inline_included : goal.decreases-inline_included
decreases-inline_included g l = 7 * l.levels + 3

abbrev pub decreases-include_file : goal.decreases-include_file
decreases-include_file g l = 7 * l.levels + 2

abbrev pub decreases-inline_found_file : goal.decreases-inline_found_file
decreases-inline_found_file g l = 7 * l.levels + 1

abbrev pub decreases-inline_outside : goal.decreases-inline_outside
decreases-inline_outside g l = 7 * l.levels + 3

abbrev pub decreases-inline_file : goal.decreases-inline_file
decreases-inline_file g l = 7 * l.levels + 2

abbrev pub decreases-inline_module : goal.decreases-inline_module
decreases-inline_module g l = 7 * l.levels + 1

abbrev pub decreases-inline_inside : goal.decreases-inline_inside
decreases-inline_inside g l = 7 * l.levels

abbrev pub invariant-inline_trees-fronts : goal.invariant-inline_trees-fronts
invariant-inline_trees-fronts g l =
    Going (inlined (map file_shown l.files) l.levels) (map file_shown l.files) (inline_context_shown l.at)
    (flat_len (trees l.fn.tokens)) (trees l.fn.tokens) l.initial.builder
    (map unresolved_shown l.initial.unresolved.items) l.most (cursor_shown l.cursor) l.builder
    (map unresolved_shown l.unresolved.items)

abbrev pub decreases-inline_trees-fronts : goal.decreases-inline_trees-fronts
decreases-inline_trees-fronts g l = l.most
