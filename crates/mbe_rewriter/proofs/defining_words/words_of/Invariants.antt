use Rattle.std.proofs.Common.{◌≡◌, map, drop}
use Rattle.mbe_rewriter.specs.DefiningWords as spec
use Rattle.mbe_rewriter.specs.Hygiene.EventViews.{event_of}
use Rattle.mbe_rewriter.proofs.defining_words.words_of.Given as goal

abbrev pub invariant-loop-event : goal.invariant-loop-event
invariant-loop-event g l =
    spec.words_from l.words (map event_of (drop l.event-index l.events))
    ≡ spec.words_from spec.no_words (map event_of l.events)
