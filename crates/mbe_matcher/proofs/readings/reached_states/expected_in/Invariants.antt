use Rattle.std.proofs.Common.{◌≡◌, ◌++◌, drop, map}
use Rattle.std.specs.Prelude.{option_map}
use Rattle.mbe_matcher.specs.Expected.{expected_seen}
use Rattle.mbe_matcher.specs.Readings.Continuation.{expected_at}
use Rattle.mbe_matcher.specs.Readings.Views.{state_seen}
use Rattle.mbe_matcher.proofs.readings.reached_states.expected_in.Given as goal

abbrev pub invariant-loop-state : goal.invariant-loop-state
invariant-loop-state g l =
    map (option_map expected_seen) l.all.items ++ map expected_at (map state_seen (drop l.state-index l.states))
    ≡ map expected_at (map state_seen l.states)
