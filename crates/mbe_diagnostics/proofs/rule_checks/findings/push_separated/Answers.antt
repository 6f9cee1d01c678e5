use Rattle.std.proofs.Common.{arith}
use Rattle.mbe_diagnostics.proofs.rule_checks.findings.push_separated.Goals as goal

pub offset_bounds-all-one-index : goal.offset_bounds-all-one-index
offset_bounds-all-one-index g c = let k = c.loop-one-test.true in omega (arith, k)
