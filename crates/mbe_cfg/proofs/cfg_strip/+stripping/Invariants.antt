use Rattle.std.proofs.Common.{◌+◌, ◌*◌}
use Rattle.mbe_tt.specs.Trees.Tree.{flat_len}
use Rattle.mbe_tt.specs.Views.View.{trees}
use Rattle.mbe_cfg.specs.CfgStrip.{IsEnabledTo, stripped}
use Rattle.mbe_cfg.proofs.StripLemmas.{ModuleCursor}
use Rattle.mbe_cfg.proofs.cfg_strip.+stripping.Given as goal

abbrev pub decreases-strip_trees : goal.decreases-strip_trees
decreases-strip_trees g l = 6 * l.levels + 5

abbrev pub decreases-strip_front : goal.decreases-strip_front
decreases-strip_front g l = 6 * l.levels + 4

abbrev pub decreases-strip_other : goal.decreases-strip_other
decreases-strip_other g l = 6 * l.levels + 3

abbrev pub decreases-strip_tree : goal.decreases-strip_tree
decreases-strip_tree g l = 6 * l.levels + 2

abbrev pub decreases-strip_group : goal.decreases-strip_group
decreases-strip_group g l = 6 * l.levels + 1

abbrev pub decreases-strip_inside : goal.decreases-strip_inside
decreases-strip_inside g l = 6 * l.levels

abbrev pub invariant-strip_trees-fronts : goal.invariant-strip_trees-fronts
invariant-strip_trees-fronts g l =
    ModuleCursor (stripped l.settings (g.G.FragmentGrammar.grammar l.grammar) l.levels) l.settings
    (g.G.FragmentGrammar.grammar l.grammar) (flat_len (trees l.fn.tokens)) (trees l.fn.tokens) l.initial.builder
    l.initial.faults.items l.left (trees l.rest) l.builder l.faults.items
    × IsEnabledTo l.settings l.known (trees l.rest)

abbrev pub decreases-strip_trees-fronts : goal.decreases-strip_trees-fronts
decreases-strip_trees-fronts g l = l.left
