use Rattle.mbe_matcher.proofs.StepLemmas.{over_some, over_none}
use Rattle.mbe_matcher.proofs.steps.over.Goals as goal

pub returns-then-width-eq0 : goal.returns-then-width-eq0
returns-then-width-eq0 g c = over_none c.args.width c.args.beyond c.args.after c.if-width-eq0.true

pub returns : goal.returns
returns g c = over_some c.args.width c.args.beyond c.args.after c.if-width-eq0.false
