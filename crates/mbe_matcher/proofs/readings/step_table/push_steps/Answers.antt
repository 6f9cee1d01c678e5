use Rattle.std.proofs.Common.{◌-◌, length, arith}
use Rattle.mbe_matcher.proofs.Divergence.Rounding.{step-on, steps-end}
use Rattle.mbe_matcher.proofs.readings.step_table.push_steps.Goals as goal

pub loop-passed-preserved : goal.loop-passed-preserved
loop-passed-preserved g c =
    step-on _ _ _ (length c.args.states.now - c.loop-passed.passed) c.args.states.now c.loop-passed.passed
    c.index-states-passed.result _ _ _ _ c.loop-passed-test.true c.index-states-passed.is c.loop-passed.invariant
    c.in_ok-push.ensures.items c.in_ok-step.ensures (omega (arith, c.loop-passed-test.true))

pub returns : goal.returns
returns g c =
    steps-end _ _ _ c.args.states.now c.loop-passed.passed _ _ c.loop-passed-test.false c.loop-passed.invariant
