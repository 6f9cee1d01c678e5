use Rattle.std.proofs.Common.{arith}
use Rattle.mbe_diagnostics.proofs.rule_checks.findings.names_of.Goals as goal

pub offset_bounds-bound-one-index : goal.offset_bounds-bound-one-index
offset_bounds-bound-one-index g c = let k = c.loop-one-test.true in omega (arith, k)
