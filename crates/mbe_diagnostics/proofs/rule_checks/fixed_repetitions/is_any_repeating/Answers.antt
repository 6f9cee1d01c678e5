use Rattle.std.proofs.Common.{arith}
use Rattle.mbe_diagnostics.proofs.rule_checks.fixed_repetitions.is_any_repeating.Goals as goal

pub offset_bounds-used-one-index : goal.offset_bounds-used-one-index
offset_bounds-used-one-index c = let k = c.loop-one-test.true in omega (arith, k)
