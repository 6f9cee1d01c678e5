use Rattle.std.proofs.Common.{◌∙◌, sym}
use Rattle.mbe_variables.proofs.FollowLemmas.{reach_on, reach_stop, not_below}
use Rattle.mbe_variables.proofs.variable_lookup.+reach.Goals as goal

pub returns-in-Some-get : goal.returns-in-Some-get
returns-in-Some-get g t c =
    c.reach.ensures ∙ sym (reach_on c.args.path.now c.in-Some.inner.now c.in-Some.level.now c.args.binding.now
    c.in-Nested.values c.deref.result.now
    c.in-Some.ensures.cases.0 c.in-Nested.is c.deref.ensures.value c.in-Some-get.value.now
    c.in-Some-get.ensures.lookup.3.0 c.in-Some-get.ensures.lookup.1)

pub returns-in-None : goal.returns-in-None
returns-in-None g t c =
    sym (reach_stop c.args.path.now c.in-Some.inner.now c.in-Some.level.now c.args.binding.now c.in-Nested.values
    c.deref.result.now
    c.in-Some.ensures.cases.0 c.in-Nested.is c.deref.ensures.value (not_below _ _ c.in-None.ensures.lookup.0))
