use Rattle.std.proofs.Common.{◌≡◌, ◌+◌, ◌<◌, ◌≤◌, chars, length}
use Rattle.mbe_text.specs.Whitespace.{past_comments}
use Rattle.mbe_text.specs.ScannerSteps.{ScansForward}
use Rattle.mbe_text.proofs.scanner.Scanner.block_comment.Given as goal

abbrev pub invariant-chars : goal.invariant-chars
invariant-chars l = record {
  on : ScansForward l.initial.self l.self;
  inside : 0 < l.depth;
  few : l.depth + length l.self.rest.now ≤ 1 + length l.initial.self.rest.now;
  exact : past_comments l.depth (chars l.self.rest.now) ≡ past_comments 1 (chars l.initial.self.rest.now);
}

abbrev pub decreases-chars : goal.decreases-chars
decreases-chars l = length l.self.rest.now
