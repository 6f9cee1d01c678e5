use Rattle.std.proofs.Common.{◌≡◌, ◌++◌, map, drop}
use Rattle.mbe_rewriter.proofs.hygiene.contexts.push_names.Given as goal

abbrev pub invariant-loop-name : goal.invariant-loop-name
invariant-loop-name g l =
    l.words.items ++ map (λ t. t.now) (drop l.name-index l.names)
    ≡ l.initial.words.items ++ map (λ t. t.now) l.names
