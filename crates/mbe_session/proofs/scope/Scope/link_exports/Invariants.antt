use Rattle.std.proofs.Common.{◌≡◌, map, take}
use Rattle.mbe_cfg.specs.CrateExports.ExportViews.{export_of}
use Rattle.mbe_session.specs.Linker.{all_exported}
use Rattle.mbe_session.specs.SessionViews.{scope_of}
use Rattle.mbe_session.proofs.scope.Scope.link_exports.Given as goal

abbrev pub invariant-loop-export : goal.invariant-loop-export
invariant-loop-export g l =
    (scope_of l.self
    ≡ all_exported l.is_all (map export_of (take l.export-index l.exports)) (scope_of l.initial.self))
    × (l.self.edition ≡ l.initial.self.edition)
