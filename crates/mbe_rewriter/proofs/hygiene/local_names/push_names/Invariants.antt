use Rattle.std.proofs.Common.{◌≡◌, ◌++◌, map, drop}
use Rattle.mbe_rewriter.specs.Hygiene.EventViews.{word_of, context_parents_of}
use Rattle.mbe_rewriter.specs.Hygiene.LocalNames as spec
use Rattle.mbe_rewriter.proofs.hygiene.local_names.push_names.Given as goal

abbrev pub invariant-loop-name : goal.invariant-loop-name
invariant-loop-name g l =
    map word_of l.found.items
    ++ spec.text_words (context_parents_of l.context_parents) l.span (map (λ t. t.now) (drop l.name-index l.names))
    ≡ map word_of l.initial.found.items ++ spec.text_words (context_parents_of l.context_parents) l.span
    (map (λ t. t.now) l.names)
