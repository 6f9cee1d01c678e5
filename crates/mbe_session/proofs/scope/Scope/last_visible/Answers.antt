use Rattle.std.proofs.Common.{rules, arith, ◌-◌}
use Rattle.mbe_session.proofs.BelowLemmas.{below_on, below_here, below_none, near_here, near_none}
use Rattle.mbe_session.proofs.scope.Scope.last_visible.Goals as goal

pub places-preserved : goal.places-preserved
places-preserved g c = below_on _ c.places.left _ (omega arith) c.places.invariant (search rules)

pub returns-then-is_visible_as : goal.returns-then-is_visible_as
returns-then-is_visible_as g c =
    near_here _ _ (c.places.left - 1) _ (search rules)
    (below_here _ c.places.left _ (omega arith) c.places.invariant (search rules))

pub returns : goal.returns
returns g c = near_none _ _ (below_none _ c.places.left _ (omega arith) c.places.invariant)
