use Rattle.std.proofs.Common.{arith}
use Rattle.mbe_diagnostics.proofs.rule_checks.follow_check.push_forbidden_of.Goals as goal

pub offset_bounds-after-next-index : goal.offset_bounds-after-next-index
offset_bounds-after-next-index g c = let k = c.loop-next-test.true in omega (arith, k)
