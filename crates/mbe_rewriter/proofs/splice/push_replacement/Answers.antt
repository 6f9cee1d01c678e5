use Rattle.std.proofs.Common.{rules}
use Rattle.mbe_rewriter.proofs.SplicingLemmas.{adds_part, adds_nothing}
use Rattle.mbe_rewriter.proofs.splice.push_replacement.Goals as goal

pub returns-then-not-can_replace-clause-adds : goal.returns-then-not-can_replace-clause-adds
returns-then-not-can_replace-clause-adds g c = adds_nothing _ _ _ _ (search rules)

pub returns-clause-adds : goal.returns-clause-adds
returns-clause-adds g c = adds_part _ _ _ _ _ (search rules) (search rules)
