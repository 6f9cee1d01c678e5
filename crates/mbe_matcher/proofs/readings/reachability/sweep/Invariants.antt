use Rattle.std.proofs.Common.{◌≡◌, ℕ, ◌<◌, ◌≤◌, true, false, drop, length}
use Rattle.mbe_matcher.specs.Readings.Graph.{is_marked, AreFrom, AreClosed, unmarked}
use Rattle.mbe_matcher.proofs.readings.reachability.sweep.Given as goal

abbrev pub invariant-loop-edge : goal.invariant-loop-edge
invariant-loop-edge l = record {
  size : length l.marks ≡ length l.fn.marks;
  kept : (n : ℕ) → is_marked l.fn.marks n ≡ true → is_marked l.marks n ≡ true;
  from : (start : ℕ) → AreFrom l.edges start l.fn.marks → AreFrom l.edges start l.marks;
  closed : l.grew ≡ false → (l.marks ≡ l.fn.marks)
      × (AreClosed (drop l.edge-index l.edges) l.marks → AreClosed l.edges l.marks);
  fewer : l.grew ≡ true → unmarked l.marks < unmarked l.fn.marks;
  no_more : unmarked l.marks ≤ unmarked l.fn.marks;
}
