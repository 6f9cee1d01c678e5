use Rattle.std.proofs.Common.{◌≡◌, ◌++◌, map, drop}
use Rattle.mbe_rewriter.specs.Hygiene.EventViews.{event_of, word_of}
use Rattle.mbe_rewriter.specs.Hygiene.PatternCalls as spec
use Rattle.mbe_rewriter.proofs.hygiene.pattern_calls.bound_names.Given as goal

abbrev pub invariant-loop-event : goal.invariant-loop-event
invariant-loop-event g l =
    map word_of l.found.items ++ spec.bound_names l.mark (map event_of (drop l.event-index l.events))
    ≡ spec.bound_names l.mark (map event_of l.events)
