use Rattle.mbe_cargo.specs.LeastSet.{AllHold}
use Rattle.mbe_cargo.proofs.least_set.apply_rules.Given as goal

abbrev pub invariant-loop-rule : goal.invariant-loop-rule
invariant-loop-rule l = AllHold l.rules l.fn.marks.items → AllHold l.rules l.marks.items
