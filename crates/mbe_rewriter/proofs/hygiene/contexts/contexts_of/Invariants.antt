use Rattle.std.proofs.Common.{◌≡◌, [], map, drop}
use Rattle.mbe_rewriter.specs.Hygiene.Contexts as spec
use Rattle.mbe_rewriter.specs.Hygiene.EventViews.{event_of}
use Rattle.mbe_rewriter.proofs.hygiene.contexts.contexts_of.Given as goal

abbrev pub invariant-loop-event : goal.invariant-loop-event
invariant-loop-event g l =
    spec.contexts_from l.found.items (map event_of (drop l.event-index l.events))
    ≡ spec.contexts_from [] (map event_of l.events)
