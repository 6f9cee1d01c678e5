use Rattle.std.proofs.Common.{◌≡◌}
use Rattle.mbe_session.specs.Scopes.{definition_at, is_placed, last_below, placed}
use Rattle.mbe_session.specs.SessionViews.{scope_of}
use Rattle.mbe_session.proofs.scope.Scope.placed.Given as goal

abbrev pub invariant-numbers : goal.invariant-numbers
invariant-numbers g l =
    last_below (λ n. is_placed l.place (definition_at (scope_of l.self) n)) l.left ≡ placed (scope_of l.self) l.place

abbrev pub decreases-numbers : goal.decreases-numbers
decreases-numbers g l = l.left
