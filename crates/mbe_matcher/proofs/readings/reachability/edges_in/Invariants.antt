use Rattle.std.proofs.Common.{◌≡◌, ◌++◌, drop}
use Rattle.mbe_matcher.specs.Readings.Graph.{edges_in}
use Rattle.mbe_matcher.proofs.readings.reachability.edges_in.Given as goal

abbrev pub invariant-loop-step : goal.invariant-loop-step
invariant-loop-step g l = l.edges.items ++ edges_in (drop l.step-index l.steps) ≡ edges_in l.steps
