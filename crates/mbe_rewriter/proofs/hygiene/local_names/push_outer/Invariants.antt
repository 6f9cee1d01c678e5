use Rattle.std.proofs.Common.{◌≡◌, ◌++◌, map, length}
use Rattle.mbe_rewriter.specs.Hygiene.EventViews.{word_of, context_parents_of}
use Rattle.mbe_rewriter.specs.Hygiene.LocalNames as spec
use Rattle.mbe_rewriter.proofs.hygiene.local_names.push_outer.Given as goal

abbrev pub invariant-contexts : goal.invariant-contexts
invariant-contexts g l =
    map word_of l.found.items ++ spec.outer_words (context_parents_of l.context_parents) (word_of l.word) l.left
    l.number
    ≡ map word_of l.initial.found.items
    ++ spec.outer_words (context_parents_of l.context_parents) (word_of l.word) (length l.context_parents.contexts.now)
    (l.word.span.ctx).0

abbrev pub decreases-contexts : goal.decreases-contexts
decreases-contexts g l = l.left
