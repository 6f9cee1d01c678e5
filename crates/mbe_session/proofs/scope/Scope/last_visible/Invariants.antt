use Rattle.std.proofs.Common.{◌≡◌, length}
use Rattle.mbe_session.specs.Scopes.{is_found, last_below, visible_at}
use Rattle.mbe_session.specs.SessionViews.{scope_of}
use Rattle.mbe_session.specs.declared.scope.Visibility.TheVariants.{Text}
use Rattle.mbe_session.proofs.scope.Scope.last_visible.Given as goal

abbrev pub invariant-places : goal.invariant-places
invariant-places g l =
    last_below (λ n. is_found l.name Text (visible_at (scope_of l.self) n)) l.left
    ≡ last_below (λ n. is_found l.name Text (visible_at (scope_of l.self) n)) (length (scope_of l.self).visible)

abbrev pub decreases-places : goal.decreases-places
decreases-places g l = l.left
