use Rattle.std.proofs.Common.{◌≡◌, ◌++◌, map}
use Rattle.mbe_tt.specs.Trees.Tree.{flat_len}
use Rattle.mbe_tt.specs.Views.View.{trees}
use Rattle.mbe_cfg.specs.CrateExports.Exports.{exports_in, exports_of}
use Rattle.mbe_cfg.specs.CrateExports.ExportViews.{export_of}
use Rattle.mbe_cfg.proofs.exports.crate_exports.add_exports.Given as goal

abbrev pub invariant-trees : goal.invariant-trees
invariant-trees g l =
    map export_of l.exports.items ++ exports_in l.by (trees l.root) l.rest
    ≡ map export_of l.initial.exports.items ++ exports_of l.by (trees l.fn.root)

abbrev pub decreases-trees : goal.decreases-trees
decreases-trees g l = flat_len l.rest
