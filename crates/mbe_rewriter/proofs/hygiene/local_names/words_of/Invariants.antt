use Rattle.std.proofs.Common.{◌≡◌, ◌++◌, map, drop}
use Rattle.mbe_rewriter.specs.Hygiene.EventViews.{event_of, word_of, context_parents_of}
use Rattle.mbe_rewriter.specs.Hygiene.LocalNames as spec
use Rattle.mbe_rewriter.proofs.hygiene.local_names.words_of.Given as goal

abbrev pub invariant-loop-event : goal.invariant-loop-event
invariant-loop-event g l =
    map word_of l.found.items ++ spec.words (context_parents_of l.context_parents)
    (map event_of (drop l.event-index l.events))
    ≡ spec.words (context_parents_of l.context_parents) (map event_of l.events)
