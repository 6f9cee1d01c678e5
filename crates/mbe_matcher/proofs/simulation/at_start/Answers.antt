use Rattle.std.proofs.Common.{ap, arith}
use Rattle.mbe_ops.specs.Views.{ops_of}
use Rattle.mbe_matcher.specs.Threads.{none_open}
use Rattle.mbe_matcher.proofs.simulation.at_start.Goals as goal

pub returns-clause-start : goal.returns-clause-start
returns-clause-start g c = λ frames. record {
  tail = ap ops_of c.deref.ensures.value;
  number = (let m = c.requires in omega (arith, m));
  account = c.in_ok-handle.ensures.account;
  around = none_open;
}
