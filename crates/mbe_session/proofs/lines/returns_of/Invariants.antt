use Rattle.std.proofs.Common.{◌≡◌, ◌≤◌, ◌-◌, ◌++◌, length, drop}
use Rattle.mbe_session.specs.LineEndings.{returns, returns_from}
use Rattle.mbe_session.proofs.lines.returns_of.Given as goal

abbrev pub invariant-loop-at : goal.invariant-loop-at
invariant-loop-at g l =
    (l.returns.items ++ returns_from (l.at - length l.returns.items) (drop l.at l.text) ≡ returns l.text)
    × (length l.returns.items ≤ l.at)
