use Rattle.std.proofs.Common.{rules, map}
use Rattle.mbe_tt.specs.Views.View.{trees}
use Rattle.mbe_cfg.specs.CrateExports.ExportViews.{export_of}
use Rattle.mbe_cfg.proofs.ExportLemmas.{exports_on, exports_last}
use Rattle.mbe_cfg.proofs.exports.crate_exports.add_exports.Goals as goal

pub trees-preserved : goal.trees-preserved
trees-preserved g c =
    exports_on c.args.by.now (trees c.args.root) c.trees.rest _ (map export_of c.args.exports.now.items)
    (map export_of c.trees.exports.items) (map export_of c.add_at.new.exports.items) _ (search rules)
    c.trees.invariant (search rules)

pub returns-in-None : goal.returns-in-None
returns-in-None g c =
    exports_last c.args.by.now (trees c.args.root) c.trees.rest (map export_of c.trees.exports.items)
    (map export_of c.add_at.new.exports.items) _ c.in-None.ensures.value c.trees.invariant (search rules)
