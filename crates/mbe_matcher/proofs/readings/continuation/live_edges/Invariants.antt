use Rattle.std.proofs.Common.{◌≡◌, ◌++◌, drop}
use Rattle.mbe_matcher.specs.Readings.Continuation.{live_edges}
use Rattle.mbe_matcher.proofs.readings.continuation.live_edges.Given as goal

abbrev pub invariant-loop-edge : goal.invariant-loop-edge
invariant-loop-edge g l =
    l.kept.items ++ live_edges l.live l.last (drop l.edge-index l.edges) ≡ live_edges l.live l.last l.edges
