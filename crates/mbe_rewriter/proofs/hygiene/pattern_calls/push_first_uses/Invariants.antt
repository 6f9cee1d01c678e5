use Rattle.std.proofs.Common.{◌≡◌, ◌++◌, map, drop}
use Rattle.mbe_rewriter.specs.Hygiene.EventViews.{word_of}
use Rattle.mbe_rewriter.specs.Hygiene.PatternCalls as spec
use Rattle.mbe_rewriter.proofs.hygiene.pattern_calls.push_first_uses.Given as goal

abbrev pub invariant-loop-name : goal.invariant-loop-name
invariant-loop-name g l =
    l.found.items ++ spec.first_uses (map word_of (drop l.name-index l.names)) (map word_of l.words)
    ≡ l.initial.found.items ++ spec.first_uses (map word_of l.names) (map word_of l.words)
