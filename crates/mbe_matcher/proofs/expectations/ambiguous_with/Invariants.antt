use Rattle.std.proofs.Common.{◌≡◌, option_map, map, drop}
use Rattle.mbe_matcher.specs.Expected.{ambiguous_with, expected_seen, next_step_seen}
use Rattle.mbe_matcher.proofs.expectations.ambiguous_with.Given as goal

abbrev pub invariant-loop-other : goal.invariant-loop-other
invariant-loop-other g l =
    ambiguous_with l.step (option_map expected_seen l.next) (map next_step_seen l.others)
    ≡ ambiguous_with l.step (option_map expected_seen l.next) (map next_step_seen (drop l.other-index l.others))
