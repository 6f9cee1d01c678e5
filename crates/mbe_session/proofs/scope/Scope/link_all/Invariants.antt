use Rattle.std.proofs.Common.{◌≡◌}
use Rattle.mbe_session.specs.Linker.{with_first}
use Rattle.mbe_session.specs.SessionViews.{scope_of}
use Rattle.mbe_session.proofs.scope.Scope.link_all.Given as goal

abbrev pub invariant-loop-number : goal.invariant-loop-number
invariant-loop-number g l =
    (scope_of l.self ≡ with_first l.by l.from l.number (scope_of l.initial.self))
    × (l.self.edition ≡ l.initial.self.edition)
