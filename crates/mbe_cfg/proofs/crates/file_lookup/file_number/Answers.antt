use Rattle.std.proofs.Common.{rules, arith}
use Rattle.mbe_cfg.proofs.BelowLemmas.{below_on, below_here, below_none}
use Rattle.mbe_cfg.proofs.crates.file_lookup.file_number.Goals as goal

pub numbers-preserved : goal.numbers-preserved
numbers-preserved g c = below_on _ c.numbers.left _ (omega arith) c.numbers.invariant (search rules)

pub returns-then-has_path : goal.returns-then-has_path
returns-then-has_path g c = below_here _ c.numbers.left _ (omega arith) c.numbers.invariant (search rules)

pub returns : goal.returns
returns g c = below_none _ c.numbers.left _ (omega arith) c.numbers.invariant
