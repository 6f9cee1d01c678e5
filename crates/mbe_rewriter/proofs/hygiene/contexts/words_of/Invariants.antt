use Rattle.std.proofs.Common.{◌≡◌, ◌++◌, map, drop}
use Rattle.mbe_rewriter.specs.Hygiene.Contexts as spec
use Rattle.mbe_rewriter.specs.Hygiene.EventViews.{event_of}
use Rattle.mbe_rewriter.proofs.hygiene.contexts.words_of.Given as goal

abbrev pub invariant-loop-event : goal.invariant-loop-event
invariant-loop-event g l =
    l.words.items ++ spec.words_of (map event_of (drop l.event-index l.events)) ≡ spec.words_of (map event_of l.events)
