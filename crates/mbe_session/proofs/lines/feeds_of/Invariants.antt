use Rattle.std.proofs.Common.{◌≡◌, take}
use Rattle.mbe_session.specs.Locations.{feeds_from}
use Rattle.mbe_session.proofs.lines.feeds_of.Given as goal

abbrev pub invariant-loop-at : goal.invariant-loop-at
invariant-loop-at g l = l.feeds.items ≡ feeds_from 0 (take l.at l.byte-items)
