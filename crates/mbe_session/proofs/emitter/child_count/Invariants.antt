use Rattle.std.proofs.Common.{◌≡◌, ◌+◌, drop}
use Rattle.mbe_session.specs.EmittedNotes.{child_count}
use Rattle.mbe_session.proofs.emitter.child_count.Given as goal

-- All diagnostics so far are children.
abbrev pub invariant-loop-diag : goal.invariant-loop-diag
invariant-loop-diag l =
    (l.count + child_count (drop l.diag-index l.diagnostics) ≡ child_count l.diagnostics)
    × (l.count ≡ l.diag-index)
