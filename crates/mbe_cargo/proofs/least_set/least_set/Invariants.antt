use Rattle.mbe_cargo.specs.LeastSet.{AllHold}
use Rattle.mbe_cargo.proofs.least_set.least_set.Given as goal

abbrev pub invariant-loop-round : goal.invariant-loop-round
invariant-loop-round l = AllHold l.rules l.marks.items
