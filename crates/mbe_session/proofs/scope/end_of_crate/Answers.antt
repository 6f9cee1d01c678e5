use Rattle.mbe_session.specs.Scopes.{is_named}
use Rattle.mbe_session.specs.SessionViews.{crate_definitions_of}
use Rattle.mbe_session.proofs.BelowLemmas.{ends_all, ends_on}
use Rattle.mbe_session.proofs.scope.end_of_crate.Goals as goal

pub loop-one-preserved : goal.loop-one-preserved
loop-one-preserved g c =
    ends_on (λ n x. is_named c.args.name.now n (crate_definitions_of x)) c.args.crates.now c.loop-one.one-index
    c.loop-one.end _ c.args.most c.one-item.result c.loop-one-test.true c.one-item.is c.end_for-end.ensures.from_end
    c.loop-one.invariant c.end_for-end.ensures.past

pub returns : goal.returns
returns g c =
    ends_all (λ n x. is_named c.args.name.now n (crate_definitions_of x)) c.args.crates.now c.loop-one.one-index
    c.loop-one.end c.args.most c.loop-one-test.false c.loop-one.invariant
