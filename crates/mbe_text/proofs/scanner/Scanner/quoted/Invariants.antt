use Rattle.std.proofs.Common.{◌≡◌, ◌≤◌, false, chars, length}
use Rattle.mbe_text.specs.SampleLiterals.{from_quote}
use Rattle.mbe_text.specs.ScannerSteps.{ScansForward}
use Rattle.mbe_text.proofs.scanner.Scanner.quoted.Given as goal

abbrev pub invariant-chars : goal.invariant-chars
invariant-chars l = record {
  on : ScansForward l.initial.self l.self;
  within : length l.self.rest.now ≤ length l.text;
  exact : from_quote l.end false (chars l.self.rest.now) ≡ from_quote l.end false (chars l.text);
}

abbrev pub decreases-chars : goal.decreases-chars
decreases-chars l = length l.self.rest.now
