use Rattle.std.proofs.Common.{◌≡◌, drop}
use Rattle.mbe_matcher.specs.Readings.Graph.{first_divergence}
use Rattle.mbe_matcher.proofs.readings.reachability.first_divergence.Given as goal

abbrev pub invariant-loop-step : goal.invariant-loop-step
invariant-loop-step l = first_divergence l.reached l.live l.steps ≡ first_divergence l.reached l.live (drop l.step-index
    l.steps)
