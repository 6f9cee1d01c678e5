use Rattle.std.proofs.Common.{◌+◌, ◌*◌, ◌-◌}
use Rattle.mbe_tt.specs.Trees.Tree.{flat_len}
use Rattle.mbe_tt.specs.Views.View.{trees}
use Rattle.mbe_cfg.specs.Crates.ExpansionModules.{modules_in}
use Rattle.mbe_cfg.proofs.DeclareLemmas.{Going}
use Rattle.mbe_cfg.proofs.crates.expansion_modules.+declaring.Given as goal

abbrev pub decreases-write_inline : goal.decreases-write_inline
decreases-write_inline g l = 4 * l.levels + 1

abbrev pub decreases-write_module : goal.decreases-write_module
decreases-write_module g l = 4 * l.levels + 2

abbrev pub decreases-write_front : goal.decreases-write_front
decreases-write_front g l = 4 * l.levels + 3

abbrev pub decreases-write_modules : goal.decreases-write_modules
decreases-write_modules g l = 4 * l.levels

abbrev pub invariant-write_modules-fronts : goal.invariant-write_modules-fronts
invariant-write_modules-fronts g l =
    Going (modules_in (l.fn.levels - 1)) (flat_len (trees l.fn.tokens)) (trees l.fn.tokens) l.initial.builder l.most
    (trees l.rest) l.builder

abbrev pub decreases-write_modules-fronts : goal.decreases-write_modules-fronts
decreases-write_modules-fronts g l = l.most
