use Rattle.std.proofs.Common.{◌≡◌, ◌∙◌, Some, sym, ap, arith}
use Rattle.std.specs.Prelude.{slice_get}
use Rattle.std.proofs.lemmas.Option.{slice_get-get_or}
use Rattle.mbe_matcher.proofs.StepLemmas.{has_number, has_within}
use Rattle.mbe_matcher.proofs.Alone.{is_none, only_next}
use Rattle.mbe_matcher.proofs.steps.end_alone.Goals as goal

pub bounds-frames-open : goal.bounds-frames-open
bounds-frames-open g c = has_within c.requires.placed.0 c.args.frames.now c.args.thread c.in-Some.open
    c.requires.placed.1 c.in-Some.is

pub offset_bounds-frames-open : goal.offset_bounds-frames-open
offset_bounds-frames-open g c =
    let k = has_within c.requires.placed.0 c.args.frames.now c.args.thread c.in-Some.open c.requires.placed.1
    c.in-Some.is in
    omega (arith, k)

pub closing_steps-requires-clause-group : goal.closing_steps-requires-clause-group
closing_steps-requires-clause-group g c = is_none c.index-frames-open.result.rounds
    (sym c.is_some.ensures ∙ c.if-is_some.false)

pub closing_steps-requires-clause-number : goal.closing_steps-requires-clause-number
closing_steps-requires-clause-number g c =
    has_number c.requires.placed.0 c.args.frames.now c.args.thread c.requires.placed.1

pub returns : goal.returns
returns g c = λ h log.
    let k = has_within c.requires.placed.0 c.args.frames.now c.args.thread c.in-Some.open c.requires.placed.1
    c.in-Some.is in
    let at : slice_get c.args.frames.now c.in-Some.open ≡ Some c.index-frames-open.result =
    slice_get-get_or c.args.frames.now c.in-Some.open c.index-frames-open.result k
    ∙ ap Some (sym c.index-frames-open.is) in
    only_next h c.args.source.now log log c.args.frames.now c.args.frames.now c.args.thread c.closing_steps.result
    c.closing_steps.ensures.over
    (c.closing_steps.ensures.steps h log c.args.frames.now c.in-Some.open c.in-Some.is at)
