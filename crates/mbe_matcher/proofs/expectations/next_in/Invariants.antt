use Rattle.std.proofs.Common.{◌≡◌, ◌++◌, map, drop}
use Rattle.mbe_matcher.specs.Expected.{expected_seen, next_step_seen, next_in}
use Rattle.mbe_matcher.proofs.expectations.next_in.Given as goal

abbrev pub invariant-loop-next_step : goal.invariant-loop-next_step
invariant-loop-next_step g l = map expected_seen l.expected.items
    ++ next_in (map next_step_seen (drop l.next_step-index l.next_steps))
    ≡ next_in (map next_step_seen l.next_steps)
