use Rattle.std.proofs.Common.{◌≡◌, ◌++◌, drop}
use Rattle.mbe_matcher.specs.Readings.ReachedStates.{reached_in}
use Rattle.mbe_matcher.proofs.readings.reached_states.reached_in.Given as goal

abbrev pub invariant-loop-step : goal.invariant-loop-step
invariant-loop-step g l =
    l.found.items ++ reached_in l.marks (drop l.step-index l.steps) ≡ reached_in l.marks l.steps
