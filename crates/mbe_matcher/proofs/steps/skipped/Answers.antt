use Rattle.mbe_matcher.proofs.StepLemmas.{skip_not, skip_some}
use Rattle.mbe_ops.specs.Views.{ops_of}
use Rattle.mbe_matcher.proofs.steps.skipped.Goals as goal

pub returns-in-OneOrMore : goal.returns-in-OneOrMore
returns-in-OneOrMore g c = skip_not c.args.kind (ops_of c.args.body.now) (ops_of c.args.rest.now) c.args.log.now
    c.args.before.now c.in-OneOrMore.is

pub returns : goal.returns
returns g c =
    skip_some c.args.kind (ops_of c.args.body.now) c.args.log.now c.skip_ops.new.log c.args.before.now c.args.rest
    c.in_ok-inside.inside c.skip_ops.new.handle
    c.in_default.not-OneOrMore c.in_ok-inside.ensures.state_count
    (rw c.again-handle.ensures at c.in_ok-inside.ensures.names)
