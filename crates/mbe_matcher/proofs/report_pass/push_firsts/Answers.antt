use Rattle.std.proofs.Common.{◌<◌, length, arith}
use Rattle.mbe_threads.specs.Stops.{thread_after}
use Rattle.mbe_matcher.proofs.Frontiers.{popped_all}
use Rattle.mbe_matcher.proofs.Turning.{turned_not, turned_on, turned_all}
use Rattle.mbe_matcher.proofs.report_pass.push_firsts.Goals as goal

pub loop-step-init : goal.loop-step-init
loop-step-init g c = turned_not thread_after c.args.token_steps.now.items c.args.stack.now.items

pub loop-step-preserved : goal.loop-step-preserved
loop-step-preserved g c = turned_on thread_after c.args.token_steps.now.items c.loop-step.token_steps.items
    c.pop.new.self.items
    c.args.stack.now.items c.loop-step.stack.items c.push.new.self.items c.in-Some.step c.loop-step.invariant
    c.in-Some.ensures.items c.in_ok-push.ensures.items

pub returns : goal.returns
returns g c =
    let token_steps = c.loop-step.token_steps in
    turned_all thread_after c.args.token_steps.now.items token_steps.items c.args.stack.now.items
    c.loop-step.stack.items
    c.loop-step.invariant (popped_all token_steps.items
    (λ (l : 0 < length token_steps.items). c.in_default.ensures.variant.1 (omega (arith, l, token_steps.ok.0))))
