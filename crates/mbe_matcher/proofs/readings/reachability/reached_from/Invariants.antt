use Rattle.std.proofs.Common.{◌≡◌, true, length}
use Rattle.mbe_matcher.specs.Readings.Graph.{is_marked, AreFrom, unmarked}
use Rattle.mbe_matcher.proofs.readings.reachability.reached_from.Given as goal

abbrev pub invariant-sweeps : goal.invariant-sweeps
invariant-sweeps g l = record {
  size : length l.marks.items ≡ l.count;
  started : is_marked l.marks.items l.start ≡ true;
  from : AreFrom l.edges l.start l.marks.items;
}

abbrev pub decreases-sweeps : goal.decreases-sweeps
decreases-sweeps g l = unmarked l.marks.items
