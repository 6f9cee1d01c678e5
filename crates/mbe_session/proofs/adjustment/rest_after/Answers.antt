use Rattle.std.proofs.Common.{rules}
use Rattle.mbe_session.specs.Adjustment.{what_follows}
use Rattle.mbe_session.proofs.AdjustmentLemmas.{left_by_semicolon}
use Rattle.mbe_session.proofs.adjustment.rest_after.Goals as goal

pub returns-then-not-consumes_semicolon : goal.returns-then-not-consumes_semicolon
returns-then-not-consumes_semicolon g c = what_follows

pub returns-in-Ok : goal.returns-in-Ok
returns-in-Ok g c = left_by_semicolon _ _ (search rules) (search rules)

pub returns-in-Err : goal.returns-in-Err
returns-in-Err g c = what_follows
