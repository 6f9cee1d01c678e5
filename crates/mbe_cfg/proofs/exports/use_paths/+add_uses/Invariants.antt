use Rattle.std.proofs.Common.{map}
use Rattle.mbe_tt.specs.Trees.Tree.{flat_len}
use Rattle.mbe_tt.specs.Views.View.{trees}
use Rattle.mbe_cfg.specs.CrateExports.ExportViews.{export_of, use_path_of}
use Rattle.mbe_cfg.proofs.ExportLemmas.{ModuleCursor}
use Rattle.mbe_cfg.proofs.exports.use_paths.+add_uses.Given as goal

abbrev pub decreases-add_uses : goal.decreases-add_uses
decreases-add_uses g l = l.levels

abbrev pub invariant-trees : goal.invariant-trees
invariant-trees g l =
    ModuleCursor l.levels l.by (trees l.root) (use_path_of l.start) (trees l.fn.tokens)
    (map export_of l.initial.exports.items)
    (use_path_of l.use_path) l.rest (map export_of l.exports.items)

abbrev pub decreases-trees : goal.decreases-trees
decreases-trees g l = flat_len l.rest
