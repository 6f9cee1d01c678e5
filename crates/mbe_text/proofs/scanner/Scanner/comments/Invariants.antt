use Rattle.std.proofs.Common.{chars, length}
use Rattle.mbe_text.specs.ScannerSteps.{ScansForward}
use Rattle.mbe_text.proofs.BlankLemmas.{Passes}
use Rattle.mbe_text.proofs.scanner.Scanner.comments.Given as goal

abbrev pub invariant-parts : goal.invariant-parts
invariant-parts l = record {
  on : ScansForward l.initial.self l.self;
  exact : Passes l.initial.self.dialect l.initial.self.total (chars l.initial.self.rest.now) (chars l.self.rest.now);
}

abbrev pub decreases-parts : goal.decreases-parts
decreases-parts l = length l.self.rest.now
