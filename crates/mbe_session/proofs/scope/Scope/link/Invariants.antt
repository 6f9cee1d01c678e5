use Rattle.std.proofs.Common.{◌≡◌, map}
use Rattle.mbe_cfg.specs.CrateExports.ExportViews.{export_of}
use Rattle.mbe_session.specs.Linker.{linked}
use Rattle.mbe_session.specs.SessionViews.{scope_of}
use Rattle.mbe_session.proofs.scope.Scope.link.Given as goal

abbrev pub invariant-rounds : goal.invariant-rounds
invariant-rounds g l =
    (linked l.left (map export_of l.exports) (scope_of l.self)
    ≡ linked l.fn.rounds (map export_of l.exports) (scope_of l.initial.self))
    × (l.self.edition ≡ l.initial.self.edition)

abbrev pub decreases-rounds : goal.decreases-rounds
decreases-rounds g l = l.left
