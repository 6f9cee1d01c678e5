use Rattle.std.proofs.Common.{arith}
use Rattle.mbe_session.proofs.ReturnLemmas.{all_returns}
use Rattle.mbe_session.proofs.lines.returns_of.Goals as goal

pub returns : goal.returns
returns g c = all_returns c.args.text.now c.loop-at.returns.items _ c.loop-at.at (omega (arith, c.loop-at-test.false))
    c.loop-at.invariant.0
