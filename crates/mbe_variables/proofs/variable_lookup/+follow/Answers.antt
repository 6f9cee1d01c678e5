use Rattle.std.proofs.Common.{◌∙◌, sym}
use Rattle.mbe_variables.proofs.FollowLemmas.{follow_on, follow_stop, lost_on, lost_stop, not_below}
use Rattle.mbe_variables.proofs.variable_lookup.+follow.Goals as goal

pub returns-in-Some-get-clause-value : goal.returns-in-Some-get-clause-value
returns-in-Some-get-clause-value g t c =
    c.follow.ensures.value ∙ sym (follow_on c.args.path.now c.in-Some.inner.now c.in-Some.level.now c.args.binding.now
    c.in-Nested.values c.deref.result.now
    c.in-Some.ensures.cases.0 c.in-Nested.is c.deref.ensures.value c.in-Some-get.value.now
    c.in-Some-get.ensures.lookup.3.0 c.in-Some-get.ensures.lookup.1)

pub returns-in-None-clause-value : goal.returns-in-None-clause-value
returns-in-None-clause-value g t c =
    sym (follow_stop c.args.path.now c.in-Some.inner.now c.in-Some.level.now c.args.binding.now c.in-Nested.values
    c.deref.result.now
    c.in-Some.ensures.cases.0 c.in-Nested.is c.deref.ensures.value (not_below _ _ c.in-None.ensures.lookup.0))

pub returns-in-Some-get-clause-lookup_error : goal.returns-in-Some-get-clause-lookup_error
returns-in-Some-get-clause-lookup_error g t c =
    c.follow.ensures.lookup_error
    ∙ sym (lost_on c.args.path.now c.in-Some.inner.now c.in-Some.level.now c.args.binding.now
    c.in-Nested.values c.deref.result.now
    c.in-Some.ensures.cases.0 c.in-Nested.is c.deref.ensures.value c.in-Some-get.value.now
    c.in-Some-get.ensures.lookup.3.0 c.in-Some-get.ensures.lookup.1)

pub returns-in-None-clause-lookup_error : goal.returns-in-None-clause-lookup_error
returns-in-None-clause-lookup_error g t c =
    sym (lost_stop c.args.path.now c.in-Some.inner.now c.in-Some.level.now c.args.binding.now c.in-Nested.values
    c.deref.result.now
    c.in-Some.ensures.cases.0 c.in-Nested.is c.deref.ensures.value (not_below _ _ c.in-None.ensures.lookup.0))
