use Rattle.std.proofs.Common.{◌≡◌, map, drop}
use Rattle.mbe_rewriter.specs.Hygiene.EventViews.{event_of, naming_of}
use Rattle.mbe_rewriter.specs.Hygiene.Renamer as spec
use Rattle.mbe_rewriter.proofs.hygiene.renamer.write.Given as goal

abbrev pub invariant-loop-event : goal.invariant-loop-event
invariant-loop-event g l =
    spec.written (map naming_of l.given) (map event_of (drop l.event-index l.events)) l.builder
    ≡ spec.written (map naming_of l.given) (map event_of l.events) l.initial.builder
