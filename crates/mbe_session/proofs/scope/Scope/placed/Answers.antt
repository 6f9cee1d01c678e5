use Rattle.std.proofs.Common.{rules, arith}
use Rattle.mbe_session.proofs.BelowLemmas.{below_on, below_here, below_none}
use Rattle.mbe_session.proofs.scope.Scope.placed.Goals as goal

pub numbers-preserved : goal.numbers-preserved
numbers-preserved g c = below_on _ c.numbers.left _ (omega arith) c.numbers.invariant (search rules)

pub returns-then-is_placed : goal.returns-then-is_placed
returns-then-is_placed g c = below_here _ c.numbers.left _ (omega arith) c.numbers.invariant (search rules)

pub returns : goal.returns
returns g c = below_none _ c.numbers.left _ (omega arith) c.numbers.invariant
