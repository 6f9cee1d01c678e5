use Rattle.std.proofs.Common.{arith}
use Rattle.mbe_diagnostics.proofs.rule_checks.findings.first_of_name.Goals as goal

pub offset_bounds-bound-one-index : goal.offset_bounds-bound-one-index
offset_bounds-bound-one-index c = let k = c.loop-one-test.true in omega (arith, k)
