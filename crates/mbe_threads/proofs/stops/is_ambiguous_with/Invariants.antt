use Rattle.std.proofs.Common.{◌≡◌, drop}
use Rattle.mbe_threads.specs.Stops.{is_ambiguous_with}
use Rattle.mbe_threads.proofs.stops.is_ambiguous_with.Given as goal

abbrev pub invariant-loop-other : goal.invariant-loop-other
invariant-loop-other g l = is_ambiguous_with l.width l.by_fragment l.others
    ≡ is_ambiguous_with l.width l.by_fragment (drop l.other-index l.others)
