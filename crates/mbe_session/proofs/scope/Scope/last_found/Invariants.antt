use Rattle.std.proofs.Common.{◌≡◌}
use Rattle.std.specs.Prelude.{◌&&◌}
use Rattle.mbe_session.specs.Scopes.{definition_at, is_admitted, is_found, last_below, last_found}
use Rattle.mbe_session.specs.SessionViews.{crate_filter_shown, scope_of}
use Rattle.mbe_session.proofs.scope.Scope.last_found.Given as goal

abbrev pub invariant-numbers : goal.invariant-numbers
invariant-numbers g l =
    last_below (λ n. is_admitted (scope_of l.self) (crate_filter_shown l.crate_filter) n
    && is_found l.name l.asked (definition_at (scope_of l.self) n)) l.left
    ≡ last_found (crate_filter_shown l.crate_filter) (scope_of l.self) l.asked l.name

abbrev pub decreases-numbers : goal.decreases-numbers
decreases-numbers g l = l.left
