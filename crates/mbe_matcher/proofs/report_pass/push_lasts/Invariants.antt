use Rattle.std.proofs.Common.{length}
use Rattle.mbe_matcher.specs.ReportPass.{visit_after}
use Rattle.mbe_matcher.proofs.Turning.{Turned}
use Rattle.mbe_matcher.proofs.report_pass.push_lasts.Given as goal

abbrev pub invariant-loop-step : goal.invariant-loop-step
invariant-loop-step g l = Turned visit_after l.fn.token_steps.items l.token_steps.items l.fn.stack.items l.stack.items

abbrev pub decreases-loop-step : goal.decreases-loop-step
decreases-loop-step g l = length l.token_steps.items
