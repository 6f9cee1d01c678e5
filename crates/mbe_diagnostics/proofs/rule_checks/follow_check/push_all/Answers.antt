use Rattle.std.proofs.Common.{arith}
use Rattle.mbe_diagnostics.proofs.rule_checks.follow_check.push_all.Goals as goal

pub offset_bounds-after-one-index : goal.offset_bounds-after-one-index
offset_bounds-after-one-index g c = let k = c.loop-one-test.true in omega (arith, k)
