use Rattle.std.proofs.Common.{rules}
use Rattle.mbe_session.specs.Adjustment.{all_of_it}
use Rattle.mbe_session.proofs.AdjustmentLemmas.{one_on, part_before}
use Rattle.mbe_session.proofs.adjustment.without_semicolon.Goals as goal

pub returns-then-is_semicolon : goal.returns-then-is_semicolon
returns-then-is_semicolon g c =
    part_before _ c.trees.iter _ c.trees.invariant (c.up_to.ensures c.trees.invariant.0 (search rules)) (search rules)

pub returns-then-is_none : goal.returns-then-is_none
returns-then-is_none g c = all_of_it

pub trees-preserved : goal.trees-preserved
trees-preserved g c = one_on _ c.trees.iter _ c.trees.invariant c.next.ensures.rest
