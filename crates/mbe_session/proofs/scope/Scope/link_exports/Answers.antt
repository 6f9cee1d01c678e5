use Rattle.std.proofs.Common.{◌∙◌}
use Rattle.mbe_cfg.specs.CrateExports.ExportViews.{export_of}
use Rattle.mbe_session.specs.SessionViews.{scope_of}
use Rattle.mbe_session.proofs.LinkLemmas.{exported_on}
use Rattle.mbe_session.proofs.scope.Scope.link_exports.Goals as goal

pub loop-export-preserved : goal.loop-export-preserved
loop-export-preserved g c = (
  exported_on export_of c.args.is_all c.args.exports.now c.export-item.result c.loop-export.export-index
      (scope_of c.args.self.now) (scope_of c.loop-export.self) (scope_of c.link_export.new.self)
      c.loop-export-test.true c.export-item.is c.loop-export.invariant.0 c.in_ok-link_export.ensures.linked,
  c.in_ok-link_export.ensures.edition ∙ c.loop-export.invariant.1,
)
