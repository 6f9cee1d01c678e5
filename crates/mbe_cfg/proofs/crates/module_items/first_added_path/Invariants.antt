use Rattle.std.proofs.Common.{◌≡◌}
use Rattle.mbe_tt.specs.Trees.Tree.{flat_len}
use Rattle.mbe_tt.specs.Views.View.{trees}
use Rattle.mbe_cfg.specs.Crates.ModuleItems.{first_added_path}
use Rattle.mbe_cfg.proofs.crates.module_items.first_added_path.Given as goal

abbrev pub invariant-added : goal.invariant-added
invariant-added g l =
    first_added_path l.left (trees l.rest) ≡ first_added_path (flat_len (trees l.fn.argument)) (trees l.fn.argument)

abbrev pub decreases-added : goal.decreases-added
decreases-added g l = l.left
